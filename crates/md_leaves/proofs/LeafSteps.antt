-- What the steps of leaves share: what is seen of a byte, and a run of whitespace that is taken byte by byte.
use Rattle.std.proofs.Common.{◌≡◌, ℕ, Bool, true, false, List, [], ◌∷◌, ◌++◌, length, Option, Some, None, refl, sym}
use Rattle.std.proofs.Common.{◌∙◌, arith, zero, suc, ◌≤◌, append_assoc, ap₂, nat_eq}
use Rattle.md_engine.specs.declared.event.Event.{Event}
use Rattle.md_engine.specs.declared.event.Name.TheVariants.{SpaceOrTab}
use Rattle.md_engine.specs.declared.state.State.{State}
use Rattle.md_engine.specs.declared.state.State.TheVariants.{Nok}
use Rattle.md_engine.specs.declared.tokenizer.Frame.{Frame}
use Rattle.md_engine.specs.declared.tokenizer.Scratch.{Scratch}
use Rattle.md_engine.specs.Meaning.{Cell, Feed, Here, Outcome}
use Rattle.md_engine.specs.World.{World, after}
use Rattle.md_engine.specs.Sees.{Sees, ahead, cell_here}
use Rattle.md_meaning.specs.Bytes.{is_end}
use Rattle.md_events.specs.Ahead.{from_ending, line_bytes, line_cells, white_end, white_rest}
use Rattle.md_events.specs.Events.Nested.{enter, exit}
use Rattle.md_meaning.specs.Rest.{is_white}
use Rattle.md_events.specs.Spaces.{calmed, ends_line, is_current, sees_white}
use Rattle.md_events.proofs.WhiteMeaning.{following_white}

-- what is seen of a byte that passes a test
pub sees-one : (feed : Feed) (w : World) (t : Option ℕ → Bool) → t None ≡ false → Sees feed w → t w.current ≡ true →
    (b : ℕ) × (feed w.point ≡ cell_here feed w b ∷ feed (after w.setting w.point)) × (t (Some b) ≡ true)
sees-one feed w t none s e = go w.current e s.next
  where
    go : (o : Option ℕ) → t o ≡ true → feed w.point ≡ ahead feed w o →
        (b : ℕ) × (feed w.point ≡ cell_here feed w b ∷ feed (after w.setting w.point)) × (t (Some b) ≡ true)
    go None e k = let bad : true ≡ false = sym e ∙ none in cc
    go (Some b) e k = (b, k, e)

-- of whitespace that is not this byte
pub sees-other_white : (feed : Feed) (w : World) (m : ℕ) → Sees feed w → is_current m w.current ≡ false →
    sees_white w.current ≡ true →
    (b : ℕ) × (feed w.point ≡ cell_here feed w b ∷ feed (after w.setting w.point)) × (nat_eq b m ≡ false) ×
    (is_white b ≡ true)
sees-other_white feed w m s e f = go w.current e f s.next
  where
    go : (o : Option ℕ) → is_current m o ≡ false → sees_white o ≡ true → feed w.point ≡ ahead feed w o →
        (b : ℕ) × (feed w.point ≡ cell_here feed w b ∷ feed (after w.setting w.point)) × (nat_eq b m ≡ false) ×
        (is_white b ≡ true)
    go None e f k = cc
    go (Some b) e f k = (b, k, e, f)

-- Where the line ends.

-- where the line ends here, nothing of it is left
pub record Ended (cells : List Cell) : Type 0 where
  pub line : line_cells cells ≡ []
  pub ending : from_ending cells ≡ cells

pub ended : (cells : List Cell) → is_end (line_bytes cells) ≡ true → Ended cells
ended [] e = record { line = refl; ending = refl }
ended (c ∷ cs) e = go (nat_eq c.byte 10) refl
  where
    go : (x : Bool) → nat_eq c.byte 10 ≡ x → Ended (c ∷ cs)
    go true k = record { line = rw k refl; ending = rw k refl }
    go false k = let bad : false ≡ true = rw k at e in cc

-- what is seen of that
end-ahead : (feed : Feed) (w : World) (o : Option ℕ) → is_end (line_bytes (ahead feed w o)) ≡ ends_line o
end-ahead feed w None = refl
end-ahead feed w (Some b) = go (nat_eq b 10) refl
  where
    go : (x : Bool) → nat_eq b 10 ≡ x → is_end (line_bytes (ahead feed w (Some b))) ≡ nat_eq b 10
    go true e = rw e refl
    go false e = rw e refl

pub end-seen : (feed : Feed) (w : World) → Sees feed w → is_end (line_bytes (feed w.point)) ≡ ends_line w.current
end-seen feed w s = rw s.next (end-ahead feed w w.current)

pub ends-seen : (feed : Feed) (w : World) → Sees feed w → ends_line w.current ≡ true → Ended (feed w.point)
ends-seen feed w s e = ended (feed w.point) (end-seen feed w s ∙ e)

-- Whitespace.

abbrev pub white_frame : State → World → List Event → Frame
white_frame ok w events = record { ok = ok; nok = Nok; is_check = false; events_len = length events; point = w.point }

-- after whitespace that ends
unfoldable pub here_after : ℕ → List Cell → Here → Here
here_after room cells h = record h {
  events = h.events ++ exit SpaceOrTab (white_end room cells h.point) ∷ [];
  point = white_end room cells h.point;
}

-- after whitespace that was begun here, its events written in another way
pub following-joined : (room : ℕ) (cells : List Cell) (h : Here) → calmed h.scratch ≡ h.scratch →
    here_after room cells (record h { events = h.events ++ enter SpaceOrTab h.point ∷ [] }) ≡
    following_white room cells h
unfolding here_after
following-joined room cells h same =
    ap₂
    (λ (es : List Event) (t : Scratch).
    let r : Here = record h { events = es; point = white_end room cells h.point; scratch = t } in r)
    (append_assoc h.events (enter SpaceOrTab h.point ∷ []) _) (sym same)

-- A rule that takes whitespace byte by byte while its scratch passes a test, and what is left after it.
pub record TakesWhite (P : Scratch → Type 0) (inside following : List Cell → Here → Outcome) : Type 0 where
  pub more : (c : Cell) (cs : List Cell) (h : Here) → P h.scratch → is_white c.byte ≡ true →
      inside (c ∷ cs) h ≡ inside cs (record h { point = c.after })
  pub stop : (c : Cell) (cs : List Cell) (h : Here) → P h.scratch → is_white c.byte ≡ false →
      inside (c ∷ cs) h ≡ following (c ∷ cs) (record h { events = h.events ++ exit SpaceOrTab h.point ∷ [] })
  pub none : (h : Here) → P h.scratch →
      inside [] h ≡ following [] (record h { events = h.events ++ exit SpaceOrTab h.point ∷ [] })

-- after a run of whitespace, however long
pub white-run : (P : Scratch → Type 0) (inside following : List Cell → Here → Outcome) (room : ℕ) (cells : List Cell)
    (h : Here) →
    TakesWhite P inside following → P h.scratch → length cells ≤ room →
    inside cells h ≡ following (white_rest room cells) (here_after room cells h)
unfolding here_after
white-run P inside following room [] h takes is le = takes.none h is
white-run P inside following zero (c ∷ cs) h takes is le = absurd (omega arith)
white-run P inside following (suc room) (c ∷ cs) h takes is le =
    go (is_white c.byte) refl (white-run P inside following room cs (record h { point = c.after }) takes is
    (omega arith))
  where
    go : (x : Bool) → is_white c.byte ≡ x →
        inside cs (record h { point = c.after }) ≡
        following (white_rest room cs) (here_after room cs (record h { point = c.after })) →
        inside (c ∷ cs) h ≡ following (white_rest (suc room) (c ∷ cs)) (here_after (suc room) (c ∷ cs) h)
    go true s on = takes.more c cs h is s ∙ on ∙ rw s refl
    go false k on = takes.stop c cs h is k ∙ rw k refl
