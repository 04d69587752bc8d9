-- The containers that flow reads, by their laws.
use Rattle.std.proofs.Common.{◌≡◌, ℕ, ◌<◌, ◌≤◌, Bool, true, false, cond, List, [], ◌∷◌, ◌++◌, length, Option, Some}
use Rattle.std.proofs.Common.{None, refl, sym, ap, ◌∙◌, subst}
use Rattle.std.specs.Option.{option_or}
use Rattle.md_engine.specs.declared.configuration.ParseOptions.{ParseOptions}
use Rattle.md_engine.specs.declared.event.Point.{Point}
use Rattle.md_engine.specs.declared.tokenizer.container.Container.{Container as Known}
use Rattle.md_engine.specs.declared.tokenizer.container.name.ContainerKind.{ContainerKind}
use Rattle.md_engine.specs.ContainerName.{name_of}
use Rattle.md_engine.specs.Meaning.{Cell, Here}
use Rattle.md_events.specs.Look.{first_seen}
use Rattle.md_events.specs.Spaces.{IsRest, ends_line}
use Rattle.md_meaning.specs.Containers.{Taken, continues, opens}
use Rattle.md_meaning.specs.Preamble.{rest_at}
use Rattle.md_meaning.specs.Rest.{Rest}
use Rattle.md_meaning.specs.State.{Container, container_block}
use Rattle.md_meaning.specs.Tree.{Blocks}
use Rattle.md_outline.specs.HeadingDepths.{are_shallow, is_shallow}
use Rattle.md_events.proofs.RestCells.{past_rest, rest_cells}
use Rattle.proof_frame.specs.Passed.{Passed, passed_by, passed_over}
use Rattle.proof_frame.specs.ContainerNames.{IsOf, container_name, container_kind}
use Rattle.md_registry.specs.Registry.{MatchesContainer, container_rules, continues_at, proceeds_at, continues_by}
use Rattle.md_registry.specs.Registry.{continues_over, openers, opens_at, opens_by}
use Rattle.proof_frame.proofs.ContainerLaws.{ByRest, IsPassed}
use Rattle.proof_frame.proofs.ContainerNames.{container-facts}
use Rattle.proof_frame.proofs.PassedFacts.{Agree, HasFurther, HasOpening}
use Rattle.proof_frame.proofs.PrefixNames.{AreFront}
use Rattle.md_registry.proofs.Registry.{container-laws, found_by, opens-found}
use Rattle.proof_frame.proofs.RegistryRead.{HasKind, IsRead, IsReadTaken, of-read}

-- By the cells of a line.

-- the tokenizer knows each by its kind, which has the name of its events
pub known-name : (k : Known) (c : Container) → MatchesContainer k c → name_of k.kind ≡ container_name c
known-name k c is = (container-facts c).held k.kind is.0

-- an open container continues where its cells say so;
pub further-is : (options : ParseOptions) (k : Known) (c : Container) (cells : List Cell) (h : Here) →
    IsRest h.scratch → h.flags.asked ≡ k → h.flags.asked_column ≡ h.point.column → MatchesContainer k c →
    continues_at options k.kind cells h ≡ passed_by (proceeds_at options c cells h.point) h
further-is options k c cells h rest asked column is =
    (container-laws k.kind).continues_is options k c cells h rest asked column is.0 is.1
    ∙ ap (λ (o : Option ContainerKind). passed_by (continues_by options c cells h.point o) h) (sym is.0)

-- what is held of a container that continues or opens is of its kind, and matches it
held-matches : (k : ContainerKind) (t : Passed) → t.held.kind ≡ k → IsOf k t.container →
    (container_rules k).holds t.held t.container → MatchesContainer t.held t.container
held-matches k t kind one holds =
    let P : ContainerKind → Type 0 = λ j. IsOf j t.container × (container_rules j).holds t.held t.container in
    subst P (sym kind) (one, holds)

-- then it is still the same container,
pub proceeds-same : (options : ParseOptions) (k : Known) (c : Container) (cells : List Cell) (p : Point) (t : Passed) →
    MatchesContainer k c → proceeds_at options c cells p ≡ Some t → MatchesContainer t.held t.container
proceeds-same options k c cells p t is e =
    let by : (container_rules k.kind).proceeds options c cells p ≡ Some t =
    sym (ap (λ (o : Option ContainerKind). continues_by options c cells p o) is.0) ∙ e in
    let rules = container-laws k.kind in
    let passed = rules.proceeded options c cells p t is.0 by in
    held-matches k.kind t passed.kind passed.one (rules.held_on options k c cells p t is.1 by)

-- takes a cell at least, and adds events with names of prefixes and of containers
proceeds-passes : (options : ParseOptions) (c : Container) (cells : List Cell) (p : Point) (t : Passed) →
    proceeds_at options c cells p ≡ Some t → (k : ContainerKind) × IsPassed k cells t
proceeds-passes options c cells p t e = go (container_kind c) refl e
  where
    go : (o : Option ContainerKind) → container_kind c ≡ o → continues_by options c cells p o ≡ Some t →
        (k : ContainerKind) × IsPassed k cells t
    go None is e = cc
    go (Some k) is e = (k, (container-laws k).proceeded options c cells p t is e)

pub proceeds-shorter : (options : ParseOptions) (c : Container) (cells : List Cell) (p : Point) (t : Passed) →
    proceeds_at options c cells p ≡ Some t → ends_line (first_seen cells) ≡ false → length t.cells < length cells
proceeds-shorter options c cells p t e ends = (proceeds-passes options c cells p t e).1.shorter ends

pub proceeds-within : (options : ParseOptions) (c : Container) (cells : List Cell) (p : Point) (t : Passed) →
    proceeds_at options c cells p ≡ Some t → length t.cells ≤ length cells
proceeds-within options c cells p t e = (proceeds-passes options c cells p t e).1.within

-- where the line ends, what is held shows whether it does
pub proceeds-over : (options : ParseOptions) (k : Known) (c : Container) (cells : List Cell) (p : Point) →
    MatchesContainer k c → ends_line (first_seen cells) ≡ true →
    proceeds_at options c cells p ≡ cond (continues_over k) (Some (passed_over k c cells p)) None
proceeds-over options k c cells p is ends =
    ap (λ (o : Option ContainerKind). continues_by options c cells p o) is.0
    ∙ (container-laws k.kind).continues_over options k c cells p is.0 is.1 ends

pub proceeds-front : (options : ParseOptions) (c : Container) (cells : List Cell) (p : Point) (t : Passed) →
    proceeds_at options c cells p ≡ Some t → AreFront t.events
proceeds-front options c cells p t e = (proceeds-passes options c cells p t e).1.front

-- one that opens is of one of the kinds that are tried
record IsOpening (cells : List Cell) (t : Passed) : Type 0 where
  kind : ContainerKind
  passed : IsPassed kind cells t
  holds : (container_rules kind).holds t.held t.container

opens-of : (options : ParseOptions) (interrupting : Bool) (cells : List Cell) (p : Point) (ks : List ContainerKind)
    (t : Passed) →
    opens_by options interrupting cells p ks ≡ Some t → IsOpening cells t
opens-of options interrupting cells p [] t e = cc
opens-of options interrupting cells p (k ∷ ks) t e =
    go ((container_rules k).opens options interrupting cells p) refl e (opens-of options interrupting cells p ks t)
  where
    more : Option Passed
    more = opens_by options interrupting cells p ks

    go : (o : Option Passed) → (container_rules k).opens options interrupting cells p ≡ o → option_or o more ≡ Some t →
        (opens_by options interrupting cells p ks ≡ Some t → IsOpening cells t) →
        IsOpening cells t
    go None is e further = further e
    go (Some u) is e further =
        let rules = container-laws k in
        record {
          kind = k;
          passed = rules.opened options interrupting cells p t (is ∙ e);
          holds = rules.held_new options interrupting cells p t (is ∙ e);
        }

-- where the line ends none does
pub opens-ended : (options : ParseOptions) (interrupting : Bool) (cells : List Cell) (p : Point)
    (ks : List ContainerKind) →
    ends_line (first_seen cells) ≡ true → opens_by options interrupting cells p ks ≡ None
opens-ended options interrupting cells p [] ends = refl
opens-ended options interrupting cells p (k ∷ ks) ends =
    ap (λ (o : Option Passed). option_or o (opens_by options interrupting cells p ks))
    ((container-laws k).opens_not options interrupting cells p ends)
    ∙ opens-ended options interrupting cells p ks ends

pub opens-same : (options : ParseOptions) (interrupting : Bool) (cells : List Cell) (p : Point) (t : Passed) →
    opens_at options interrupting cells p ≡ Some t → MatchesContainer t.held t.container
opens-same options interrupting cells p t e =
    let is = opens-of options interrupting cells p openers t e in
    held-matches is.kind t is.passed.kind is.passed.one is.holds

pub opens-shorter : (options : ParseOptions) (interrupting : Bool) (cells : List Cell) (p : Point) (t : Passed) →
    opens_at options interrupting cells p ≡ Some t → length t.cells < length cells
opens-shorter options interrupting cells p t e = go (ends_line (first_seen cells)) refl
  where
    go : (x : Bool) → ends_line (first_seen cells) ≡ x → length t.cells < length cells
    go true ends = let none = opens-ended options interrupting cells p openers ends in cc
    go false going = (opens-of options interrupting cells p openers t e).passed.shorter going

pub opens-front : (options : ParseOptions) (interrupting : Bool) (cells : List Cell) (p : Point) (t : Passed) →
    opens_at options interrupting cells p ≡ Some t → AreFront t.events
opens-front options interrupting cells p t e = (opens-of options interrupting cells p openers t e).passed.front

-- By the cells of a line and by its bytes.

-- one that flow reads is of a kind
read-kind : (c : Container) → IsRead c → (k : ContainerKind) × (container_kind c ≡ Some k)
read-kind c read = go (container_kind c) refl read
  where
    go : (o : Option ContainerKind) → container_kind c ≡ o → HasKind o → (k : ContainerKind)
        × (container_kind c ≡ Some k)
    go None e read = absurd read
    go (Some k) e read = (k, e)

-- an open container continues by the cells where it does by the bytes
pub proceeds-agrees : (options : ParseOptions) (c : Container) → IsRead c → ByRest (λ line text past r stop p.
    let cells = rest_cells line r p ++ stop in
    Agree (HasFurther line text past p (past_rest r p) stop cells) (proceeds_at options c cells p)
    (continues options c r))
proceeds-agrees options c read line text past r stop p is h k short =
    let cells : List Cell = rest_cells line r p ++ stop in
    let j = read-kind c read in
    subst
    (λ (o : Option ContainerKind).
    Agree (HasFurther line text past p (past_rest r p) stop cells) (continues_by options c cells p o)
    (continues options c r))
    (sym j.1) ((container-laws j.0).proceeds_agrees options c j.1 line text past r stop p is h k short)

-- a container opens by the cells where it does by the bytes
pub opens-agrees : (options : ParseOptions) (interrupting : Bool) → ByRest (λ line text past r stop p.
    let cells = rest_cells line r p ++ stop in
    Agree (HasOpening line text past p (past_rest r p) stop cells) (opens_at options interrupting cells p)
    (opens options interrupting r))
opens-agrees options interrupting line text past r stop p is h k short =
    subst (Agree Has (opens_at options interrupting cells p)) (sym (opens-found options interrupting r))
    (each openers)
  where
    cells : List Cell
    cells = rest_cells line r p ++ stop

    Has : Passed → Taken → Type 0
    Has = HasOpening line text past p (past_rest r p) stop (rest_cells line r p ++ stop)

    first : (a c : Option Passed) (b d : Option Taken) → Agree Has a b → Agree Has c d →
        Agree Has (option_or a c) (option_or b d)
    first None c None d has more = more
    first None c (Some t) d has more = absurd has
    first (Some u) c None d has more = absurd has
    first (Some u) c (Some t) d has more = has

    each : (ks : List ContainerKind) →
        Agree Has (opens_by options interrupting cells p ks) (found_by options interrupting r ks)
    each [] = tt
    each (j ∷ ks) =
        first ((container_rules j).opens options interrupting cells p) (opens_by options interrupting cells p ks)
        ((container_rules j).found options interrupting r) (found_by options interrupting r ks)
        ((container-laws j).opens_agrees options interrupting line text past r stop p is h k short) (each ks)

-- By the bytes of a line alone.

-- a container that opens is one that flow reads
pub opens-read : (options : ParseOptions) (interrupting : Bool) (r : Rest) →
    IsReadTaken (opens options interrupting r)
opens-read options interrupting r =
    subst IsReadTaken (sym (opens-found options interrupting r))
    (each openers)
  where
    each : (ks : List ContainerKind) → IsReadTaken (found_by options interrupting r ks)
    each [] = tt
    each (k ∷ ks) = go ((container_rules k).found options interrupting r) refl (each ks)
      where
        go : (o : Option Taken) → (container_rules k).found options interrupting r ≡ o →
            IsReadTaken (found_by options interrupting r ks) →
            IsReadTaken (option_or o (found_by options interrupting r ks))
        go None e more = more
        go (Some t) e more = of-read k t.container ((container-laws k).found_one options interrupting r t e)

-- over an empty line a container continues as it is, or it does not
pub over-empty : (options : ParseOptions) (c : Container) (column : ℕ) → IsRead c →
    (x : Bool)
    × (continues options c (rest_at column []) ≡
    cond x (Some (record { container = c; rest = rest_at column [] })) None)
over-empty options c column h =
    let k = read-kind c h in
    let held = (container-laws k.0).may_hold c k.1 in
    ((container_rules k.0).over_empty held.0, (container-laws k.0).over_empty options held.0 c column k.1 held.1)

-- an outline can show the block of one with such blocks in it
pub read-shallow : (c : Container) (bs : Blocks) → IsRead c → are_shallow bs ≡ true →
    is_shallow (container_block c bs) ≡ true
read-shallow c bs h shallow = let k = read-kind c h in (container-laws k.0).shallow c bs k.1 shallow
