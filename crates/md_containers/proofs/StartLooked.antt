-- Where another byte than a container may begin with is first after whitespace it is refused, and all is left as it
-- was.
use Rattle.std.proofs.Common.{◌≡◌, ℕ, Bool, true, false, List, Some, ap, refl, sym, ◌∙◌, ◌⊎◌, inl, inr}
use Rattle.md_engine.specs.declared.configuration.ParseOptions.{ParseOptions}
use Rattle.md_engine.specs.declared.event.Name.{Name}
use Rattle.md_engine.specs.declared.tokenizer.Scratch.{Scratch}
use Rattle.md_engine.specs.Meaning.{Cell, Here, Outcome, Refuses}
use Rattle.md_meaning.specs.Rest.{is_white}
use Rattle.md_leaves.specs.LeafStart.{entered_here, start_at}
use Rattle.md_leaves.proofs.LeafStart.{at-none, at-off, at-white}
use Rattle.md_events.specs.Ahead.{begins_white, white_rest}
use Rattle.md_events.specs.Look.{first_seen, seen_after}
use Rattle.md_events.specs.Spaces.{IsRest, small_indent}
use Rattle.md_events.proofs.AheadLemmas.{none-rest}
use Rattle.md_events.proofs.LookLemmas.{rest-begins}
use Rattle.md_events.proofs.SpacesTermination.{rest-calm}
use Rattle.md_events.proofs.WhiteMeaning.{following_white}

-- what is left after the indent refuses where such a byte, or whitespace, is first
pub start-looked : (name : Name) (on : Bool) (following : List Cell → Here → Outcome) (may : ℕ → Bool)
    (options : ParseOptions) (cells : List Cell) (h : Here) (b : ℕ) →
    ((cells : List Cell) (h : Here) (b : ℕ) → first_seen cells ≡ Some b → may b ≡ false →
    following cells h ≡ Refuses h.scratch h.flags) →
    ((c : ℕ) → is_white c ≡ true → may c ≡ false) → IsRest h.scratch → seen_after cells ≡ Some b → may b ≡ false →
    start_at name on following options cells h ≡ Refuses h.scratch h.flags
start-looked name on following may options cells h b dark white is seen e = go on (begins_white cells) refl refl
  where
    room : ℕ
    room = small_indent options

    first : (c : ℕ) × (first_seen (white_rest room cells) ≡ Some c) × ((is_white c ≡ true) ⊎ (c ≡ b))
    first = rest-begins room cells b seen

    other : (c : ℕ) → (is_white c ≡ true) ⊎ (c ≡ b) → may c ≡ false
    other c (inl k) = white c k
    other c (inr same) = rw same e

    refused : (k : Here) → following (white_rest room cells) k ≡ Refuses k.scratch k.flags
    refused k = dark (white_rest room cells) k first.0 first.1 (other first.0 first.2)

    go : (x y : Bool) → on ≡ x → begins_white cells ≡ y →
        start_at name on following options cells h ≡ Refuses h.scratch h.flags
    go false y off k = at-off name on following options cells h off
    go true true is_on k =
        at-white name on following options cells h is_on k
        ∙ refused (following_white room cells (entered_here name h))
        ∙ ap (λ (s : Scratch). Refuses s h.flags) (rest-calm h.scratch is ∙ sym is)
    go true false is_on k =
        at-none name on following options cells h is_on k
        ∙ ap (λ (l : List Cell). following l (entered_here name h)) (sym (none-rest room cells k))
        ∙ refused (entered_here name h)
