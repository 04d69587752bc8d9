-- Where the lines of a leaf of several are a group: the first of them, and all after it that continue a leaf.
use Rattle.std.proofs.Common.{◌≡◌, Bool, true, false, cond, List, [], ◌∷◌, refl, ap, sym, ◌∙◌}
use Rattle.std.specs.Prelude.{◌&&◌, if◌then◌else◌}
use Rattle.std.proofs.lemmas.Bool.{and_parts}
use Rattle.md_engine.specs.declared.tokenizer.held_leaf.HeldLeaf.{HeldLeaf}
use Rattle.proof_frame.specs.LeafName.{CodeFurther, CodeIndented, Fence, FenceFurther, GfmTable, HeadingSetext}
use Rattle.proof_frame.specs.LeafName.{HtmlFlow, HtmlFurther, LeafName}
use Rattle.proof_frame.specs.Row.{BlankRow, LeafRow, Row, RowKind, TextRow}
use Rattle.md_registry.specs.Registry.{leaf}
use Rattle.proof_rows.specs.Rows.{Group, Headed, LeafLines, Lines, Single, Turned, groups, is_further, is_last}
use Rattle.proof_rows.specs.Rows.{onto_groups, onto_leaf, onto_span, takes_head}
use Rattle.proof_rows.proofs.GroupLines.{Begins, FirstIs, onto-first}
use Rattle.proof_exact.proofs.RowRoles.{further_rows, is_headed}

-- those after the lines that continue a leaf
abbrev pub after_further : List Row → List Row
after_further [] = []
after_further (row ∷ rows) = if is_further row.kind row.on then after_further rows else row ∷ rows

-- a line that continues a leaf is one of a leaf of several lines
pub further-several : (l : LeafName) (on : HeldLeaf) → (leaf l).further on ≡ true → (leaf l).ends ≡ false
further-several CodeIndented on e = refl
further-several CodeFurther on e = refl
further-several Fence on e = refl
further-several FenceFurther on e = refl
further-several HtmlFlow on e = refl
further-several HtmlFurther on e = refl
further-several HeadingSetext on e = refl
further-several GfmTable on e = refl
further-several _ on e = cc

-- a line of a leaf of several before lines of which the first continues no leaf
pub span-alone : (row : Row) (gs : List Group) → FirstIs Begins gs → onto_span row gs ≡ LeafLines row [] ∷ gs
span-alone row [] first = refl
span-alone row (Single next ∷ gs) first = refl
span-alone row (Lines next rows ∷ gs) first = refl
span-alone row (Turned next rows under ∷ gs) first = refl
span-alone row (Headed next below rows ∷ gs) first = refl
span-alone row (LeafLines next rows ∷ gs) first =
    ap
    (λ (x : Bool). cond x (LeafLines row (next ∷ rows) ∷ gs) (LeafLines row [] ∷ LeafLines next rows ∷ gs))
    first

-- A line of a leaf of several lines, and all lines after it that continue a leaf, are one group.
pub span-group : (row : Row) (rows : List Row) (l : LeafName) → row.kind ≡ LeafRow l → (leaf l).ends ≡ false →
    groups (row ∷ rows) ≡ LeafLines row (further_rows rows) ∷ groups (after_further rows)
span-group row [] l e several =
    ap (λ (kind : RowKind). onto_groups row kind []) e ∙ ap (λ (x : Bool). onto_leaf x row []) several
span-group row (next ∷ rows) l e several =
    ap (λ (kind : RowKind). onto_groups row kind below) e ∙ ap (λ (x : Bool). onto_leaf x row below) several
    ∙ go (span-group next rows) (is_further next.kind next.on) refl next.kind refl
  where
    below : List Group
    below = groups (next ∷ rows)

    to : Bool → List Group
    to x =
        LeafLines row (cond x (next ∷ further_rows rows) []) ∷ groups (cond x (after_further rows) (next ∷ rows))

    Below : Type 0
    Below =
        (m : LeafName) → next.kind ≡ LeafRow m → (leaf m).ends ≡ false →
        below ≡ LeafLines next (further_rows rows) ∷ groups (after_further rows)

    within : Below → (m : LeafName) → next.kind ≡ LeafRow m → is_further next.kind next.on ≡ true →
        onto_span row below ≡ to true
    within is m k further =
        ap (onto_span row)
        (is m k
        (further-several m next.on (ap (λ (kind : RowKind). is_further kind next.on) (sym k) ∙ further)))
        ∙ ap
        (λ (x : Bool).
        cond x (LeafLines row (next ∷ further_rows rows) ∷ groups (after_further rows))
        (LeafLines row [] ∷ LeafLines next (further_rows rows) ∷ groups (after_further rows))) further

    go : Below → (x : Bool) → is_further next.kind next.on ≡ x → (kind : RowKind) → next.kind ≡ kind →
        onto_span row below ≡ to (is_further next.kind next.on)
    go is true further (LeafRow m) k = within is m k further ∙ ap to (sym further)
    go is true further BlankRow k =
        let bad : false ≡ true = ap (λ (kind : RowKind). is_further kind next.on) (sym k) ∙ further in absurd (cc)
    go is true further TextRow k =
        let bad : false ≡ true = ap (λ (kind : RowKind). is_further kind next.on) (sym k) ∙ further in absurd (cc)
    go is false begins kind k =
        span-alone row below (onto-first Begins next next.kind (groups rows) begins) ∙ ap to (sym begins)

-- Text before a line that takes it as its head is a group with it and with the lines that continue that.
pub head-group : (row next : Row) (rows : List Row) → row.kind ≡ TextRow → is_headed (next ∷ rows) ≡ true →
    groups (row ∷ next ∷ rows) ≡ Headed row next (further_rows rows) ∷ groups (after_further rows)
head-group row next rows e headed =
    ap (λ (kind : RowKind). onto_groups row kind (groups (next ∷ rows))) e ∙ go next.kind refl
  where
    both : (further : is_further next.kind next.on ≡ true) × (takes_head next.kind ≡ true)
    both = and_parts (is_further next.kind next.on) (takes_head next.kind) headed

    go : (kind : RowKind) → next.kind ≡ kind →
        onto_groups row TextRow (groups (next ∷ rows)) ≡
        Headed row next (further_rows rows) ∷ groups (after_further rows)
    go (LeafRow m) k =
        let several =
        further-several m next.on (ap (λ (kind : RowKind). is_further kind next.on) (sym k) ∙ both.0) in
        ap (onto_groups row TextRow) (span-group next rows m k several)
        ∙ ap
        (λ (x : Bool).
        cond x (Headed row next (further_rows rows) ∷ groups (after_further rows))
        (cond (is_further next.kind next.on && is_last (further_rows rows))
        (Turned row [] next ∷ groups (after_further rows))
        (Lines row [] ∷ LeafLines next (further_rows rows) ∷ groups (after_further rows)))) headed
    go BlankRow k =
        let bad : false ≡ true = ap (λ (kind : RowKind). is_further kind next.on) (sym k) ∙ both.0 in absurd (cc)
    go TextRow k =
        let bad : false ≡ true = ap (λ (kind : RowKind). is_further kind next.on) (sym k) ∙ both.0 in absurd (cc)
