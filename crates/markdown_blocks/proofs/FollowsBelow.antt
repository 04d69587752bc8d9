-- What follows a line in the groups of a text, by what is read of the lines below it.
use Rattle.md_engine.specs.declared.tokenizer.held_leaf.HeldLeaf.{HeldLeaf}
use Rattle.std.proofs.Common.{◌≡◌, ℕ, Bool, true, false, cond, ◌&&◌, List, [], ◌∷◌, length, refl, ap, ap₂, sym}
use Rattle.std.proofs.Common.{◌∙◌, subst, inl, inr}
use Rattle.std.specs.Prelude.{None, Option, Some}
use Rattle.proof_frame.specs.HeldLeaf.{may_continue, takes_lazy}
use Rattle.proof_rows.specs.Rows.{is_further, is_last, onto_span, Headed, LeafLines, Turned, onto_leaf, takes_head}
use Rattle.proof_rows.specs.Rows.{line_following, Group, Lines, Single, groups_events, is_lazy, is_text, line_kind}
use Rattle.proof_rows.specs.Rows.{onto_groups}
use Rattle.proof_rows.proofs.StepAfter.{IsContinued, proceeds-on}
use Rattle.md_registry.specs.Registry.{leaf}
use Rattle.proof_rows.proofs.TextGroups.{lines-first, text-onto, text_group}
use Rattle.std.proofs.lemmas.Bool.{and_parts}
use Rattle.md_engine.specs.declared.configuration.ParseOptions.{ParseOptions}
use Rattle.md_engine.specs.declared.event.Point.{Point}
use Rattle.md_events.specs.Events.Spelled.{Reading, read}
use Rattle.md_meaning.specs.State.{Container, Path}
use Rattle.proof_frame.specs.Change.{Change, is_none}
use Rattle.proof_frame.specs.Closed.{close_containers}
use Rattle.proof_rows.specs.Fronted.{Contained, rest_from}
use Rattle.proof_rows.specs.WithoutMdx.{IsWithoutMdx}
use Rattle.proof_frame.specs.Row.{BlankRow, LeafRow, Row, RowKind, TextRow}
use Rattle.proof_rows.specs.Valid.{IsPlain, containers_of, still_of, reading}
use Rattle.proof_rows.proofs.ContainedLemmas.{lazy-opens}
use Rattle.proof_frame.proofs.FrontFacts.{LinePrefix}
use Rattle.proof_rows.proofs.LineSteps.{contained-lazy, contained_at, continues_lazy}
use Rattle.md_registry.proofs.Registry.{laws}
use Rattle.proof_rows.proofs.RowFacts as f
use Rattle.proof_frame.proofs.PrefixFacts.{begins}
use Rattle.markdown_blocks.proofs.SpelledGroups.{Follows, Means, StartsText}
use Rattle.markdown_blocks.proofs.SpelledLines.{line-is}

abbrev pub First : ParseOptions → List ℕ → List Container → HeldLeaf → Point → List (List ℕ) → List Row → Type 0
First options bytes cs still p (line ∷ lines) (row ∷ rows) = f.IsLine options bytes cs still p line row
First options bytes cs still p _ _ = ⊥

pub first-line : (options : ParseOptions) (bytes : List ℕ) (cs : List Container) (still : HeldLeaf) (p : Point)
    (lines : List (List ℕ)) (rows : List Row) →
    f.AreRows options bytes cs still p lines rows → First options bytes cs still p lines rows
first-line options bytes cs still p (line ∷ []) (row ∷ []) are = are.0
first-line options bytes cs still p (line ∷ next ∷ lines) (row ∷ below ∷ rows) are = are.0
first-line options bytes cs still p lines rows are = absurd are

-- Where the next line continues no text and turns none, the text ends. The lines that continue the next line may be
-- those of a text,
text-begins : (turn : Option Row) (row below : Row) (rows : List Row) (gs : List Group) →
    is_none below.change.opens ≡ false →
    onto_groups row TextRow (text_group turn below rows ∷ gs) ≡ Lines row [] ∷ text_group turn below rows ∷ gs
text-begins turn row below rows gs e =
    text-onto turn row below rows gs
    ∙ ap (λ (x : Bool). by (is_none row.closed_after && x)) e ∙ go (is_none row.closed_after)
  where
    by : Bool → List Group
    by x = cond x (text_group turn row (below ∷ rows) ∷ gs) (Lines row [] ∷ text_group turn below rows ∷ gs)

    go : (x : Bool) → by (x && false) ≡ Lines row [] ∷ text_group turn below rows ∷ gs
    go true = refl
    go false = refl

-- or of another leaf
span-begins : (row below : Row) (rows : List Row) (gs : List Group) → is_further below.kind below.on ≡ false →
    onto_groups row TextRow (LeafLines below rows ∷ gs) ≡ Lines row [] ∷ LeafLines below rows ∷ gs
span-begins row below rows gs e =
    ap
    (λ (x : Bool).
    cond (x && takes_head below.kind) (Headed row below rows ∷ gs)
    (cond (x && is_last rows) (Turned row [] below ∷ gs) (Lines row [] ∷ LeafLines below rows ∷ gs))) e

leaf-begins : (ends : Bool) (row below : Row) (gs : List Group) → is_further below.kind below.on ≡ false →
    onto_groups row TextRow (onto_leaf ends below gs) ≡ Lines row [] ∷ onto_leaf ends below gs
leaf-begins true row below gs e = refl
leaf-begins false row below [] e = span-begins row below [] [] e
leaf-begins false row below (Single next ∷ gs) e = span-begins row below [] (Single next ∷ gs) e
leaf-begins false row below (Lines next rows ∷ gs) e = span-begins row below [] (Lines next rows ∷ gs) e
leaf-begins false row below (Turned next rows under ∷ gs) e = span-begins row below [] (Turned next rows under ∷ gs) e
leaf-begins false row below (Headed next more rows ∷ gs) e = span-begins row below [] (Headed next more rows ∷ gs) e
leaf-begins false row below (LeafLines next rows ∷ gs) e = go (is_further next.kind next.on)
  where
    go : (x : Bool) →
        onto_groups row TextRow (cond x (LeafLines below (next ∷ rows) ∷ gs)
        (LeafLines below [] ∷ LeafLines next rows ∷ gs)) ≡
        Lines row [] ∷ cond x (LeafLines below (next ∷ rows) ∷ gs) (LeafLines below [] ∷ LeafLines next rows ∷ gs)
    go true = span-begins row below (next ∷ rows) gs e
    go false = span-begins row below [] (LeafLines next rows ∷ gs) e

not-joined : (row below : Row) (gs : List Group) → (is_none below.change.opens && is_text below.kind) ≡ false →
    is_further below.kind below.on ≡ false →
    onto_groups row TextRow (onto_groups below below.kind gs) ≡ Lines row [] ∷ onto_groups below below.kind gs
not-joined row below gs lazy begins = go below.kind lazy
  where
    opens : (x : Bool) → (x && true) ≡ false → x ≡ false
    opens true e = cc
    opens false e = refl

    go : (kind : RowKind) → (is_none below.change.opens && is_text kind) ≡ false →
        onto_groups row TextRow (onto_groups below kind gs) ≡ Lines row [] ∷ onto_groups below kind gs
    go BlankRow e = refl
    go (LeafRow l) e = leaf-begins (leaf l).ends row below gs begins
    go TextRow e =
        lines-first
        (λ (more : List Group). onto_groups row TextRow more ≡ Lines row [] ∷ more) below gs
        (λ turn more rest. text-begins turn row below more rest (opens (is_none below.change.opens) e))
        (λ next more rest spans heads. refl)

-- after a line another may continue lazily if it is text
pub following-lazy : (options : ParseOptions) (bytes line : List ℕ) (row : Row) → f.IsRow options bytes line row →
    takes_lazy row.following ≡ is_text row.kind
following-lazy options bytes line row is = ap takes_lazy is.following ∙ go row.kind
  where
    go : (kind : RowKind) → takes_lazy (line_following options row.on is.rest kind) ≡ is_text kind
    go BlankRow = refl
    go (LeafRow l) = ((laws l).not_lazy options row.on).1 is.rest
    go TextRow = refl

-- where the next line continues no leaf of several lines, a new group begins
not-spanned : (row below : Row) (gs : List Group) → is_further below.kind below.on ≡ false →
    onto_span row (onto_groups below below.kind gs) ≡ LeafLines row [] ∷ onto_groups below below.kind gs
not-spanned row below gs begins = go below.kind
  where
    apart : (rows : List Row) (more : List Group) →
        onto_span row (LeafLines below rows ∷ more) ≡ LeafLines row [] ∷ LeafLines below rows ∷ more
    apart rows more =
        ap (λ (x : Bool). cond x (LeafLines row (below ∷ rows) ∷ more)
        (LeafLines row [] ∷ LeafLines below rows ∷ more)) begins

    spans : (gs : List Group) → onto_span row (onto_span below gs) ≡ LeafLines row [] ∷ onto_span below gs
    spans [] = apart [] []
    spans (Single next ∷ more) = apart [] (Single next ∷ more)
    spans (Lines next rows ∷ more) = apart [] (Lines next rows ∷ more)
    spans (Turned next rows under ∷ more) = apart [] (Turned next rows under ∷ more)
    spans (Headed next under rows ∷ more) = apart [] (Headed next under rows ∷ more)
    spans (LeafLines next rows ∷ more) = join (is_further next.kind next.on)
      where
        join : (x : Bool) →
            onto_span row (cond x (LeafLines below (next ∷ rows) ∷ more)
            (LeafLines below [] ∷ LeafLines next rows ∷ more)) ≡
            LeafLines row [] ∷ cond x (LeafLines below (next ∷ rows) ∷ more)
            (LeafLines below [] ∷ LeafLines next rows ∷ more)
        join true = apart (next ∷ rows) more
        join false = apart [] (LeafLines next rows ∷ more)

    leaves : (x : Bool) → onto_span row (onto_leaf x below gs) ≡ LeafLines row [] ∷ onto_leaf x below gs
    leaves true = refl
    leaves false = spans gs

    text : (turn : Option Row) (more : List Row) (rest : List Group) →
        onto_span row (text_group turn below more ∷ rest) ≡ LeafLines row [] ∷ text_group turn below more ∷ rest
    text None more rest = refl
    text (Some under) more rest = refl

    go : (kind : RowKind) → onto_span row (onto_groups below kind gs) ≡ LeafLines row [] ∷ onto_groups below kind gs
    go BlankRow = refl
    go (LeafRow l) = leaves (leaf l).ends
    go TextRow =
        lines-first (λ (more : List Group). onto_span row more ≡ LeafLines row [] ∷ more) below gs text
        (λ next more rest spans heads. refl)

-- what follows a line, by what is read of the lines below
pub follows-below : (options : ParseOptions) (bytes : List ℕ) (p : Path) (row below : Row) (gs : List Group) (q : Point)
    (line : List ℕ) (last : Reading) →
    IsWithoutMdx options → IsPlain p → takes_lazy row.following ≡ is_text row.kind → still_of p ≡ row.following →
    row.closed_after ≡ below.change.closes → row.after ≡ Some q → f.IsEnding bytes row.end q →
    f.IsLine options bytes (containers_of p) (still_of p) q line below →
    (x y : Bool) → is_lazy (still_of p) below.change.opens below.kind ≡ x → is_further below.kind below.on ≡ y →
    Means options bytes p q x y below (onto_groups below below.kind gs) last →
    Follows options bytes p row (onto_groups below below.kind gs) last
follows-below options bytes p row below gs q line last built plain lazily still leaves after ending is true y lazy far
    means = by means
  where
    c : Contained
    c = contained_at options p (rest_from q line)

    kind_is : below.kind ≡ line_kind options c.on c.rest
    kind_is = line-is options bytes (containers_of p) (still_of p) q line below is

    proceeds : continues_lazy options p c ≡ true
    proceeds =
        ap (is_lazy (still_of p) c.change.opens) (sym kind_is)
        ∙ ap (λ (x : Change). is_lazy (still_of p) x.opens below.kind) (sym is.change) ∙ lazy

    none : below.change.opens ≡ []
    none = lazy-opens (still_of p) below.change.opens below.kind lazy

    text : is_text row.kind ≡ true
    text =
        sym lazily ∙ ap takes_lazy (sym still)
        ∙ (and_parts (takes_lazy (still_of p)) (is_none below.change.opens)
        (and_parts (takes_lazy (still_of p) && is_none below.change.opens) (is_text below.kind) lazy).0).0

    no_leaves : row.closed_after ≡ []
    no_leaves = leaves ∙ ap (λ (x : Change). x.closes) is.change ∙ contained-lazy options p (rest_from q line) proceeds

    fronts : LinePrefix bytes [] q below.first below.front
    fronts = subst (λ (cs : List Container). LinePrefix bytes cs q below.first below.front) none is.front

    by : StartsText options bytes p below (onto_groups below below.kind gs) last →
        Follows options bytes p row (onto_groups below below.kind gs) last
    by (inl starts) =
        inr
        (inl
        (record {
          text = text;
          next = below;
          starts = starts;
          closed_after = no_leaves;
          opens = none;
          after = q;
          after_is = after;
          ending = ending;
          fronts = fronts;
        }))
    by (inr starts) =
        inr
        (inr
        (inr
        (record { text = text; next = below; starts = starts; closed_after = no_leaves; after = q; fronts = fronts })))
follows-below options bytes p row below gs q line last built plain lazily still leaves after ending is false true lazy
    far means =
    let c : Contained = contained_at options p (rest_from q line) in
    let kind_is = line-is options bytes (containers_of p) (still_of p) q line below is in
    let proceeds : IsContinued options p c = proceeds-on options p (rest_from q line) plain
    (sym (ap₂ is_further kind_is is.on) ∙ far) in
    let none : below.change.opens ≡ [] = ap (λ (x : Change). x.opens) is.change ∙ proceeds.opens in
    inr
    (inr
    (inl
    (record {
      name = means.0;
      next = below;
      closed_after = leaves ∙ ap (λ (x : Change). x.closes) is.change ∙ proceeds.closes;
      after = q;
      after_is = after;
      ending = ending;
      fronts = subst (λ (cs : List Container). LinePrefix bytes cs q below.first below.front) none is.front;
      on = is.on ∙ proceeds.on ∙ still;
      further = far;
      still = still;
      may = ap may_continue (sym still) ∙ proceeds.is.may;
      starts = means.1;
    })))
follows-below options bytes p row below gs q line last built plain lazily still leaves after ending is false false lazy
    far means =
    inl (record {
      apart =
          λ text. not-joined row below gs
          (ap (λ (x : Bool). x && is_none below.change.opens && is_text below.kind)
          (sym (ap takes_lazy still ∙ lazily ∙ ap is_text text))
          ∙ lazy)
          far;
      alone = not-spanned row below gs far;
      reads =
          ap
          (λ (cs : List Container).
          read bytes (close_containers (length cs) (reading options p))
          (groups_events options bytes (onto_groups below below.kind gs))) leaves
          ∙ means;
    })
