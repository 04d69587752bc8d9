-- Lines of text that prefixes may part.
use Rattle.std.proofs.Common.{◌≡◌, ℕ, zero, suc, ◌+◌, ◌-◌, ◌<◌, true, false, List, ◌∷◌, ◌++◌, length, get_or, drop}
use Rattle.std.proofs.Common.{slice_range, refl, ap, sym, ◌∙◌, subst, arith}
use Rattle.std.specs.Prelude.{◌==◌, not, slice_index}
use Rattle.std.proofs.lemmas.Bool.{true≢false}
use Rattle.std.proofs.lemmas.Bool.Decides.{nat_tests}
use Rattle.std.proofs.lemmas.List.{get_or-drop, get_or-take}
use Rattle.md_engine.specs.declared.event.Point.{Point}
use Rattle.md_meaning.specs.Lines.{is_ending}
use Rattle.md_events.specs.Events.Spelled.{Purpose, TextRole}
use Rattle.md_events.proofs.RestCells.{Cut}
use Rattle.md_outline.specs.Outlined.{OpenTextSpan, begins_line, parts_exit}
use Rattle.md_meaning.specs.Rest.{cut_tab}
use Rattle.proof_frame.specs.Row.{Row}
use Rattle.proof_frame.proofs.PartedFacts.{clear, low-clear}
use Rattle.proof_frame.proofs.BetweenFacts.{is_low}

-- a text of this purpose may be parted where lines begin
abbrev pub MayPart : List ℕ → Purpose → Type 0
MayPart bytes purpose =
    (p : Point) (span : OpenTextSpan) →
    parts_exit bytes (TextRole purpose) p span ≡ begins_line span (slice_range bytes span.from p.index)

-- a byte of a line
pub line-at : (bytes line : List ℕ) (a e k b : ℕ) → slice_range bytes a e ≡ line → e ≡ a + length line →
    k < length line →
    get_or line k 0 ≡ b → slice_index bytes (a + k) ≡ b
line-at bytes line a e k b text size h at =
    sym (get_or-drop a bytes k 0) ∙ sym (get_or-take (e - a) (drop a bytes) k 0 (omega (arith, size, h)))
    ∙ ap (λ (l : List ℕ). get_or l k 0) text ∙ at

-- a line that begins within a tab begins with it
pub line-tab : (bytes : List ℕ) (row : Row) (spaces : ℕ) (rest : List ℕ) → Cut spaces row.first →
    slice_range bytes row.first.index row.end.index ≡ cut_tab spaces ++ rest →
    row.end.index ≡ row.first.index + length (cut_tab spaces ++ rest) → (row.first.vs == 0) ≡ false →
    slice_index bytes row.first.index ≡ 9
line-tab bytes row zero rest cut text size e = absurd (true≢false (sym (ap (λ (v : ℕ). v == 0) cut) ∙ e))
line-tab bytes row (suc spaces) rest cut text size e =
    let zero_at : row.first.index + 0 ≡ row.first.index = omega arith in
    ap (slice_index bytes) (sym zero_at)
    ∙ line-at bytes (9 ∷ rest) row.first.index row.end.index 0 9 text size (omega arith) refl

pub line-clear : (bytes : List ℕ) (row : Row) (spaces : ℕ) (rest : List ℕ) → Cut spaces row.first →
    slice_range bytes row.first.index row.end.index ≡ cut_tab spaces ++ rest →
    row.end.index ≡ row.first.index + length (cut_tab spaces ++ rest) → clear bytes row.first ≡ true
line-clear bytes row spaces rest cut text size =
    low-clear bytes row.first
    (λ e. subst (λ (b : ℕ). is_low b ≡ true) (sym (line-tab bytes row spaces rest cut text size e)) refl)

pub feed-none : (b : ℕ) → is_ending b ≡ false → not (b == 10) ≡ true
feed-none b h = grind (arith, nat_tests)
