-- E-mail addresses without angle brackets (GFM 6.9): they are found in what is text, outside of links.
use Rattle.std.specs.Prelude.{ℕ, zero, suc, Bool, true, false, if◌then◌else◌, List, [], ◌∷◌, ◌++◌, length, take, drop}
use Rattle.std.specs.Prelude.{Some, None}
use Rattle.md_engine.specs.declared.event.Name.{Name}
use Rattle.md_engine.specs.declared.event.Name.TheVariants as n
use Rattle.md_inline_events.specs.Forest.{Forest, nothing, over, part, piece, size}
use Rattle.md_inlines.specs.Literal.{email_at}
use Rattle.md_inlines.specs.Atoms.{beside, byte, is_data, literal_name}

-- the parts whose text is searched
abbrev pub holds_text : Name → Bool
holds_text n.Image = true
holds_text n.Label = true
holds_text n.LabelText = true
holds_text n.Emphasis = true
holds_text n.EmphasisText = true
holds_text n.Strong = true
holds_text n.StrongText = true
holds_text n.GfmStrikethrough = true
holds_text n.GfmStrikethroughText = true
holds_text _ = false

-- a text after another, with the addresses in it: at most so many of them and of other bytes
abbrev pub emails_at_most : ℕ → List ℕ → List ℕ → Forest
emails_at_most zero before text = nothing
emails_at_most (suc more) before [] = nothing
emails_at_most (suc more) before (b ∷ text) = elim (email_at before (b ∷ text)) [
  | Some found ↦
      over (literal_name found.kind) found.len
      (emails_at_most more (before ++ take found.len (b ∷ text)) (drop found.len (b ∷ text)))
  | None ↦ byte n.Data (emails_at_most more (before ++ b ∷ []) text)
]

abbrev pub emails_in : List ℕ → List ℕ → Forest
emails_in before text = emails_at_most (length text) before text

-- A forest over a text after another, with the addresses in its text.
abbrev pub with_emails : List ℕ → List ℕ → Forest → Forest
with_emails before text nothing = nothing
with_emails before text (piece name more following) =
    beside (if is_data name then emails_in before (take (suc more) text) else piece name more nothing)
    (with_emails (before ++ take (suc more) text) (drop (suc more) text) following)
with_emails before text (part name inside following) =
    part name (if holds_text name then with_emails before text inside else inside)
    (with_emails (before ++ take (size inside) text) (drop (size inside) text) following)
