-- The events of frontmatter, one after the other: from where in it to where they go.
--
-- Each fence, line ending and text of it has a lemma here. `passes-append` puts them together, from `at_front` to
-- `after_front`, and all of it is `passes-front`.
use Rattle.std.proofs.Common.{◌≡◌, ℕ, false, ◌==◌, List, ◌++◌, slice_range, refl}
use Rattle.md_engine.specs.declared.event.Event.{Event}
use Rattle.md_engine.specs.declared.event.Name.TheVariants as n
use Rattle.md_engine.specs.declared.event.Point.{Point}
use Rattle.md_meaning.specs.Texts.{first_byte}
use Rattle.md_events.specs.Events.Nested.{around, pair}
use Rattle.md_events.specs.Events.Spelled.{IsFence, OfFrontmatter, byte_at}
use Rattle.md_events.proofs.SpelledLemmas.{Quiet, Roles}
use Rattle.md_outline.specs.LinesAllowed.{AtEnd, AtEnding, AtInfo, AtLine, AtMarkers, Outside, Site}
use Rattle.md_outline.proofs.LinesPass.{Passes, passes-append, passes-around, passes-leaf, passes-quiet}

-- before its first fence, on a line that is empty yet, on one that has its text, and after its last fence
abbrev pub at_front : Site
at_front = AtMarkers OfFrontmatter

abbrev pub on_line : Site
on_line = AtLine OfFrontmatter

abbrev pub following_line : Site
following_line = AtEnding OfFrontmatter

abbrev pub after_front : Site
after_front = AtEnd OfFrontmatter

-- All of it.
pub passes-front : (bytes : List ℕ) (p q : Point) (es : List Event) → Passes bytes at_front after_front es →
    Passes bytes Outside Outside (around n.Frontmatter p q es)
passes-front bytes p q es h = passes-leaf bytes n.Frontmatter OfFrontmatter p q after_front es refl tt tt h

-- The first fence: its markers, of which the first is no byte of value 0, and whitespace.
pub passes-front_fence : (bytes : List ℕ) (p q end : Point) (white : List Event) → Roles Quiet white →
    (first_byte (slice_range bytes (byte_at p) end.index) == 0) ≡ false →
    Passes bytes at_front following_line (around n.FrontmatterFence p q (pair n.FrontmatterSequence p end ++ white))
passes-front_fence bytes p q end white quiet some =
    passes-around bytes at_front at_front (AtInfo OfFrontmatter) following_line IsFence n.FrontmatterFence p q
    (pair n.FrontmatterSequence p end ++ white) refl (tt, refl)
    (passes-append bytes at_front (AtInfo OfFrontmatter) (AtInfo OfFrontmatter) (pair n.FrontmatterSequence p end) white
    (λ ys more. (tt, (some, more))) (passes-quiet bytes (AtInfo OfFrontmatter) white quiet))
    (tt, refl)

-- The text of a line.
pub passes-front_chunk : (bytes : List ℕ) (p q : Point) →
    Passes bytes on_line following_line (pair n.FrontmatterChunk p q)
passes-front_chunk bytes p q ys more = (tt, (tt, more))

-- The last fence.
pub passes-last_fence : (bytes : List ℕ) (p q end : Point) (white : List Event) → Roles Quiet white →
    Passes bytes on_line after_front (around n.FrontmatterFence p q (pair n.FrontmatterSequence p end ++ white))
passes-last_fence bytes p q end white quiet =
    passes-around bytes on_line after_front after_front after_front IsFence n.FrontmatterFence p q
    (pair n.FrontmatterSequence p end ++ white) refl (tt, refl)
    (passes-append bytes after_front after_front after_front (pair n.FrontmatterSequence p end) white
    (λ ys more. (tt, (tt, more))) (passes-quiet bytes after_front white quiet))
    (tt, refl)
