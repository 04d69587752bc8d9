-- What is tried for a footnote definition: its prefix is taken where its cells say so, and takes a cell at least.
use Rattle.std.proofs.Common.{◌≡◌, ℕ, zero, suc, Bool, true, false, List, ◌++◌, length, Option, Some, None, refl, ◌∙◌}
use Rattle.std.proofs.Common.{sym, subst, ap, ap₂}
use Rattle.md_engine.specs.declared.configuration.ParseOptions.{ParseOptions}
use Rattle.md_engine.specs.declared.event.Point.{Point}
use Rattle.md_engine.specs.declared.tokenizer.container.Container.{Container as Held}
use Rattle.md_engine.specs.declared.tokenizer.container.name.ContainerKind.{ContainerKind}
use Rattle.md_engine.specs.declared.tokenizer.container.name.ContainerKind.TheVariants as kind
use Rattle.md_engine.specs.Meaning.{Accepts, Cell, Here}
use Rattle.md_engine.specs.World.{container_of}
use Rattle.md_containers.specs.Footnote.{footnote_width}
use Rattle.md_containers.specs.FootnotePrefix.{footnote_as, footnote_by, footnote_further, footnote_holds, footnote_new}
use Rattle.md_containers.specs.FootnoteRule.{footnote_at}
use Rattle.md_containers.specs.ItemPrefix.{ItemPassed}
use Rattle.md_containers.specs.ItemRule.{item_on}
use Rattle.md_containers.proofs.FootnoteCells.{footnote-is, footnote-on}
use Rattle.md_containers.proofs.FootnoteHeld.{IsFootnote, IsSame, IsWithin, footnote-ended, footnote-over}
use Rattle.md_containers.proofs.FootnoteHeld.{further-footnote, further-within, new-footnote}
use Rattle.md_containers.proofs.FootnoteShorter.{footnote-further_shorter, footnote-shorter}
use Rattle.md_containers.proofs.ItemShorter.{IsShorter}
use Rattle.md_meaning.specs.State.{Container, InFootnote, InItem, InQuote}
use Rattle.md_events.specs.Look.{first_seen}
use Rattle.md_events.specs.Spaces.{IsRest, ends_line}
use Rattle.proof_container_laws.specs.Containers.GfmFootnoteDefinition.{footnote_proceeds, footnote_passed}
use Rattle.proof_container_laws.specs.Containers.GfmFootnoteDefinition.{footnote_passes, footnote_rules}
use Rattle.proof_frame.specs.Passed.{Passed, passed_by, passed_over}
use Rattle.proof_frame.specs.ContainerNames.{IsOf}
use Rattle.proof_frame.proofs.ContainerLaws.{IsPassed}
use Rattle.proof_container_laws.proofs.GfmFootnoteDefinition.Cells.{new-front, on-front}
use Rattle.proof_container_laws.proofs.ListItem.Cells.{HasFront}
use Rattle.proof_container_laws.proofs.ListItem.Trial.{shorter-within}

-- what holds of all these holds of each container of this kind
pub each-footnote : (P : Container → Type 0) → ((label : List ℕ) → P (InFootnote label)) →
    (c : Container) → IsOf kind.GfmFootnoteDefinition c → P c
each-footnote P h (InFootnote label) is = h label
each-footnote P h (InItem digits marker zero blank) is = cc
each-footnote P h (InItem digits marker (suc w) blank) is = cc
each-footnote P h (InQuote alert) is = cc

-- and of each that is held
each-held : (held : Held) (P : Container → Type 0) →
    ((label : List ℕ) → held.width ≡ footnote_width → held.starts_blank ≡ false → P (InFootnote label)) →
    (c : Container) → footnote_holds held c → P c
each-held held P h (InFootnote label) holds = h label holds.0 holds.1
each-held held P h (InQuote alert) holds = absurd holds
each-held held P h (InItem digits marker width blank) holds = absurd holds

-- What is held of one shows no more of it than its kind does.

held-same : (held : Held) → held.kind ≡ kind.GfmFootnoteDefinition →
    footnote_as held ≡ footnote_as (container_of kind.GfmFootnoteDefinition)
held-same held is =
    ap
    (λ (k : ContainerKind). let h : Held = record { width = footnote_width; kind = k; starts_blank = false } in h) is

-- so what is left of one is what it takes
passes-by : (o : Option ItemPassed) (h : Here) → h.flags.asked.kind ≡ kind.GfmFootnoteDefinition →
    footnote_by o h ≡ passed_by (footnote_passes o) h
passes-by None h is = refl
passes-by (Some t) h is =
    ap
    (λ (held : Held).
    Accepts
    (record h {
      events = h.events ++ t.events;
      point = t.point;
      flags = record h.flags { asked = held };
    }) t.cells)
    (held-same h.flags.asked is)

-- where one opens,
pub new-tried : (options : ParseOptions) (cells : List Cell) (h : Here) → IsRest h.scratch →
    h.flags.asked ≡ container_of kind.GfmFootnoteDefinition →
    footnote_at options cells h ≡ passed_by (footnote_passes (footnote_new options cells h.point)) h
new-tried options cells h is asked =
    footnote-is options cells h is
    ∙ passes-by (footnote_new options cells h.point) h (ap (λ (held : Held). held.kind) asked)

-- and on a further line
pub further-tried : (held : Held) (c : Container) (cells : List Cell) (h : Here) → IsRest h.scratch →
    h.flags.asked ≡ held → held.kind ≡ kind.GfmFootnoteDefinition → footnote_holds held c →
    item_on cells h ≡ passed_by (footnote_proceeds c cells h.point) h
further-tried held c cells h is asked of =
    each-held held (λ d. item_on cells h ≡ passed_by (footnote_proceeds d cells h.point) h)
    (λ label e f.
    footnote-on label cells h is (ap (λ (x : Held). x.width) asked ∙ e) (ap (λ (x : Held). x.starts_blank) asked ∙ f)
    ∙ passes-by (footnote_further label cells h.point) h (ap (λ (x : Held). x.kind) asked ∙ of))
    c

-- What is taken.

-- so what passes is known,
passed-is : (cells : List Cell) (o : Option ItemPassed) (t : Passed) → IsFootnote o →
    (ends_line (first_seen cells) ≡ false → IsShorter (length cells) o) → IsWithin (length cells) o → HasFront o →
    footnote_passes o ≡ Some t → IsPassed kind.GfmFootnoteDefinition cells t
passed-is cells None t one shorter within front e = cc
passed-is cells (Some u) t one shorter within front e =
    let same : footnote_passed u ≡ t = cc in
    subst (IsPassed kind.GfmFootnoteDefinition cells) same
    (record {
      one = subst (IsOf kind.GfmFootnoteDefinition) (sym one.1) refl;
      kind = refl;
      shorter = shorter;
      within = within;
      front = front;
    })

-- and it is held as it is
passed-held : (o : Option ItemPassed) (t : Passed) → IsFootnote o → footnote_passes o ≡ Some t →
    footnote_rules.holds t.held t.container
passed-held None t one e = cc
passed-held (Some u) t one e =
    let same : footnote_passed u ≡ t = cc in
    let held : Held = footnote_as (container_of kind.GfmFootnoteDefinition) in
    subst (λ (v : Passed). footnote_rules.holds v.held v.container) same
    (subst (footnote_rules.holds held) (sym one.1) (refl, (refl, refl)))

-- where one opens,
pub new-passed : (options : ParseOptions) (interrupting : Bool) (cells : List Cell) (p : Point) (t : Passed) →
    footnote_rules.opens options interrupting cells p ≡ Some t → IsPassed kind.GfmFootnoteDefinition cells t
new-passed options interrupting cells p t =
    let shorter = footnote-shorter options cells p in
    passed-is cells (footnote_new options cells p) t (new-footnote options cells p) (λ ends. shorter)
    (shorter-within (length cells) (footnote_new options cells p) shorter) (new-front options cells p)

pub new-holds : (options : ParseOptions) (interrupting : Bool) (cells : List Cell) (p : Point) (t : Passed) →
    footnote_rules.opens options interrupting cells p ≡ Some t → footnote_rules.holds t.held t.container
new-holds options interrupting cells p t = passed-held (footnote_new options cells p) t (new-footnote options cells p)

-- and on a further line
further-one : (label : List ℕ) (cells : List Cell) (p : Point) → IsFootnote (footnote_further label cells p)
further-one label cells p = go (footnote_further label cells p) (further-footnote label cells p)
  where
    go : (o : Option ItemPassed) → IsSame label o → IsFootnote o
    go None is = tt
    go (Some t) is = (label, is)

pub further-passed : (c : Container) (cells : List Cell) (p : Point) (t : Passed) →
    IsOf kind.GfmFootnoteDefinition c → footnote_proceeds c cells p ≡ Some t →
    IsPassed kind.GfmFootnoteDefinition cells t
further-passed c cells p t =
    each-footnote (λ d. footnote_proceeds d cells p ≡ Some t → IsPassed kind.GfmFootnoteDefinition cells t)
    (λ label.
    passed-is cells (footnote_further label cells p) t (further-one label cells p)
    (footnote-further_shorter label cells p) (further-within label cells p) (on-front label cells p))
    c

pub further-holds : (held : Held) (c : Container) (cells : List Cell) (p : Point) (t : Passed) →
    footnote_holds held c → footnote_proceeds c cells p ≡ Some t → footnote_rules.holds t.held t.container
further-holds held c cells p t =
    each-held held (λ d. footnote_proceeds d cells p ≡ Some t → footnote_rules.holds t.held t.container)
    (λ label e f. passed-held (footnote_further label cells p) t (further-one label cells p)) c

-- Where the line ends none opens,

pub new-ended : (options : ParseOptions) (interrupting : Bool) (cells : List Cell) (p : Point) →
    ends_line (first_seen cells) ≡ true → footnote_rules.opens options interrupting cells p ≡ None
new-ended options interrupting cells p ends = ap footnote_passes (footnote-ended options cells p ends)

-- and an open one continues as it is
pub further-ended : (held : Held) (c : Container) (cells : List Cell) (p : Point) →
    held.kind ≡ kind.GfmFootnoteDefinition → footnote_holds held c → ends_line (first_seen cells) ≡ true →
    footnote_proceeds c cells p ≡ Some (passed_over held c cells p)
further-ended held c cells p is holds ends =
    each-held held (λ d. footnote_proceeds d cells p ≡ Some (passed_over held d cells p))
    (λ label e f.
    ap footnote_passes (footnote-over label cells p ends)
    ∙ ap (λ (x : Held). Some (passed_over x (InFootnote label) cells p)) (as-held e f))
    c holds
  where
    as-held : held.width ≡ footnote_width → held.starts_blank ≡ false →
        footnote_as (container_of kind.GfmFootnoteDefinition) ≡ held
    as-held e f =
        sym (held-same held is)
        ∙ sym
        (ap₂
        (λ (w : ℕ) (b : Bool). let h : Held = record { width = w; kind = held.kind; starts_blank = b } in h) e f)
