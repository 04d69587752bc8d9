-- The rows of a leaf of several lines after its first one: those up to the last that is a pair of its own, which are in
-- the leaf, and the others.
use Rattle.std.proofs.Common.{◌≡◌, ℕ, Bool, true, false, cond, ◌||◌, List, [], ◌∷◌, ◌++◌, refl, sym, ap, ◌∙◌, subst}
use Rattle.md_engine.specs.declared.configuration.ParseOptions.{ParseOptions}
use Rattle.proof_frame.specs.LeafName.{LeafName}
use Rattle.proof_frame.specs.Row.{LeafRow, Row, any_framed, is_framed, last_row}
use Rattle.proof_frame.proofs.LeafLines.Bare.{inner, outer}
use Rattle.md_registry.specs.Registry.{further_of, leaf}
use Rattle.md_registry.proofs.SpanLeaves.{further-is}
use Rattle.proof_rows.proofs.GroupLines.{AreSpan, IsSpanLine, line-further, line-of, span-begins}
use Rattle.proof_exact_lines.proofs.Spans.{EndsFramed, own}

-- Each continues the leaf that the one before it has left open, and no container ends between them.
abbrev pub AllContinue : LeafName → Row → List Row → Type 0
AllContinue l row [] = Unit {0}
AllContinue l row (next ∷ rows) =
    (kind : next.kind ≡ LeafRow l) × (on : next.on ≡ row.following) × (further : (leaf l).further next.on ≡ true)
    × (ends : row.closed_after ≡ []) × AllContinue l next rows

pub span-proceeds : (options : ParseOptions) (bytes : List ℕ) (l : LeafName) (row : Row) (rows : List Row) →
    further_of l ≡ l → (are : AreSpan options bytes row rows) →
    further_of (span-begins options bytes row rows are).name ≡ l → AllContinue l row rows
span-proceeds options bytes l row [] same are e = tt
span-proceeds options bytes l row (next ∷ rows) same are e =
    let below : IsSpanLine options bytes next = span-begins options bytes next rows are.8 in
    let further : (leaf below.name).further next.on ≡ true = line-further options bytes next below true are.7 in
    let above = line-of options bytes row are.0 in
    let left : next.on ≡ (leaf are.0.name).holds options row.on above.rest = are.6 ∙ above.following in
    let name : below.name ≡ l =
    further-is are.0.name below.name options row.on above.rest
    (ap (leaf below.name).further (sym left) ∙ further)
    ∙ e in (
      below.kind ∙ ap LeafRow name,
      are.6,
      subst (λ (m : LeafName). (leaf m).further next.on ≡ true) name further,
      are.5,
      span-proceeds options bytes l next rows same are.8 (ap further_of name ∙ same),
    )

-- the rows in front, and those after the last of them
pub front-proceeds : (l : LeafName) (row : Row) (rows more : List Row) → AllContinue l row (rows ++ more) →
    AllContinue l row rows
front-proceeds l row [] more are = tt
front-proceeds l row (next ∷ rows) more are = (are.0, are.1, are.2, are.3, front-proceeds l next rows more are.4)

pub following-proceeds : (l : LeafName) (row : Row) (rows more : List Row) → AllContinue l row (rows ++ more) →
    AllContinue l (last_row row rows) more
following-proceeds l row [] more are = are
following-proceeds l row (next ∷ rows) more are = following-proceeds l next rows more are.4

-- Those in the leaf and those after it are all,
pub inner-outer : (rows : List Row) → inner own rows ++ outer own rows ≡ rows
inner-outer [] = refl
inner-outer (row ∷ rows) = go (any_framed own (row ∷ rows)) (inner-outer rows)
  where
    go : (x : Bool) → inner own rows ++ outer own rows ≡ rows →
        cond x (row ∷ inner own rows) [] ++ cond x (outer own rows) (row ∷ rows) ≡ row ∷ rows
    go true more = ap (λ (l : List Row). row ∷ l) more
    go false more = refl

-- none after it is a pair of its own,
pub outer-none : (rows : List Row) → any_framed own (outer own rows) ≡ false
outer-none [] = refl
outer-none (row ∷ rows) = go (any_framed own (row ∷ rows)) refl (outer-none rows)
  where
    go : (x : Bool) → any_framed own (row ∷ rows) ≡ x → any_framed own (outer own rows) ≡ false →
        any_framed own (cond x (outer own rows) (row ∷ rows)) ≡ false
    go true e more = more
    go false e more = e

-- and the last one in it is.
alone-framed : (x y : Bool) → (x || y) ≡ true → y ≡ false → x ≡ true
alone-framed true y h e = refl
alone-framed false y h e = cc

ends-framed : (row : Row) (rows : List Row) → any_framed own (row ∷ rows) ≡ true → EndsFramed (row ∷ inner own rows)
ends-framed row [] some = alone-framed (is_framed row.inside) false some refl
ends-framed row (next ∷ rows) some = go (any_framed own (next ∷ rows)) refl (λ e. ends-framed next rows e)
  where
    go : (x : Bool) → any_framed own (next ∷ rows) ≡ x →
        (any_framed own (next ∷ rows) ≡ true → EndsFramed (next ∷ inner own rows)) →
        EndsFramed (row ∷ cond x (next ∷ inner own rows) [])
    go true e more = more e
    go false e more = alone-framed (is_framed row.inside) (any_framed own (next ∷ rows)) some e

pub inner-ends : (rows : List Row) → EndsFramed (inner own rows)
inner-ends [] = tt
inner-ends (row ∷ rows) = go (any_framed own (row ∷ rows)) refl
  where
    go : (x : Bool) → any_framed own (row ∷ rows) ≡ x → EndsFramed (cond x (row ∷ inner own rows) [])
    go true e = ends-framed row rows e
    go false e = tt
