-- No chunk begins before the lines of a text: no event of its mark or of its frontmatter is linked.
use Rattle.std.proofs.Common.{◌≡◌, ℕ, Bool, true, false, cond, List, [], ◌∷◌, ◌++◌, drop, take, Option, Some, None}
use Rattle.std.proofs.Common.{refl, ap}
use Rattle.std.specs.Prelude.{option_map, is_none}
use Rattle.std.specs.List.{list_all}
use Rattle.std.proofs.lemmas.Bool.{and_from}
use Rattle.md_engine.specs.declared.configuration.ParseOptions.{ParseOptions}
use Rattle.md_engine.specs.declared.event.Content.{Content}
use Rattle.md_engine.specs.declared.event.Event.{Event}
use Rattle.md_engine.specs.declared.event.Name.{Name}
use Rattle.md_engine.specs.declared.event.Name.TheVariants as n
use Rattle.md_engine.specs.declared.event.Point.{Point}
use Rattle.md_engine.specs.Place.{first_point}
use Rattle.md_meaning.specs.Lines.{full_lines_of, without_ending}
use Rattle.md_meaning.specs.Preamble.{front_marker, has_mark, is_front_fence, without_mark}
use Rattle.md_events.specs.Events.Nested.{enter, exit, pair}
use Rattle.md_events.specs.Events.Places.{past_text}
use Rattle.md_events.specs.Substituted.{stays}
use Rattle.proof_leaf_laws.specs.Front.{FrontRead, after_these, ending_of, ending_part, events_of, fence_part}
use Rattle.proof_leaf_laws.specs.Front.{front_events, front_from, front_read, line_part, lines_read, mark_end}
use Rattle.proof_leaf_laws.specs.Front.{mark_events, mark_point, past_ending, text_front}
use Rattle.proof_frame.specs.LineColumns.{part_over}
use Rattle.proof_frame.proofs.EachEvent.{each-append}
use Rattle.proof_frame.proofs.PartFacts.{IsUnlinked, NoLinks}
use Rattle.proof_frame.proofs.SubstitutedLemmas.{Unwanted, no_links-unwanted}

over-unlinked : (name : Name) (text : List ℕ) (p q : Point) → NoLinks (part_over name text p q)
over-unlinked name [] p q = tt
over-unlinked name (b ∷ bs) p q = (refl, (refl, tt))

fence-unlinked : (line : List ℕ) (p : Point) → NoLinks (fence_part line p)
fence-unlinked line p =
    let q : Point = past_text (take 3 line) p in
    let r : Point = past_text line p in (
      refl,
      (
        refl,
        (
          refl,
          each-append IsUnlinked (part_over n.SpaceOrTab (drop 3 line) q r) (exit n.FrontmatterFence r ∷ [])
              (over-unlinked n.SpaceOrTab (drop 3 line) q r) (refl, tt),
        ),
      ),
    )

ending-unlinked : (ending : List ℕ) (p : Point) → NoLinks (ending_part ending p)
ending-unlinked [] p = tt
ending-unlinked (b ∷ bs) p = (refl, (refl, tt))

-- nor is one before others
these-unlinked : (es : List Event) (read : Option FrontRead) → NoLinks es → NoLinks (events_of read) →
    NoLinks (events_of (option_map (after_these es) read))
these-unlinked es None h k = tt
these-unlinked es (Some f) h k = each-append IsUnlinked es f.events h k

lines-unlinked : (m : ℕ) (lines : List (List ℕ)) (p : Point) → NoLinks (events_of (lines_read m lines p))
lines-unlinked m [] p = tt
lines-unlinked m (full ∷ more) p =
    go (is_front_fence m line) (lines_read m more (past_ending ending q))
    (lines-unlinked m more (past_ending ending q))
  where
    line : List ℕ
    line = without_ending full

    ending : List ℕ
    ending = ending_of full

    q : Point
    q = past_text line p

    go : (x : Bool) (read : Option FrontRead) → NoLinks (events_of read) →
        NoLinks
        (events_of
        (cond x
        (Some
        (record {
          events = fence_part line p ++ exit n.Frontmatter q ∷ ending_part ending q;
          point = past_ending ending q;
        }))
        (option_map (after_these (line_part line p ++ ending_part ending q)) read)))
    go true read h =
        each-append IsUnlinked (fence_part line p) (exit n.Frontmatter q ∷ ending_part ending q) (fence-unlinked line p)
        (refl, ending-unlinked ending q)
    go false read h =
        these-unlinked (line_part line p ++ ending_part ending q) read
        (each-append IsUnlinked (line_part line p) (ending_part ending q) (over-unlinked n.FrontmatterChunk line p q)
        (ending-unlinked ending q)) h

from-unlinked : (marker : Option ℕ) (full : List ℕ) (more : List (List ℕ)) (p : Point) →
    NoLinks (events_of (front_from marker full more p))
from-unlinked None full more p = tt
from-unlinked (Some m) full more p =
    let line : List ℕ = without_ending full in
    let ending : List ℕ = ending_of full in
    let q : Point = past_text line p in
    these-unlinked (enter n.Frontmatter p ∷ fence_part line p ++ ending_part ending q)
    (lines_read m more (past_ending ending q)) (
      refl,
      each-append IsUnlinked (fence_part line p) (ending_part ending q) (fence-unlinked line p)
          (ending-unlinked ending q),
    )
    (lines-unlinked m more (past_ending ending q))

read-unlinked : (options : ParseOptions) (lines : List (List ℕ)) (p : Point) →
    NoLinks (events_of (front_read options lines p))
read-unlinked options [] p = tt
read-unlinked options (full ∷ more) p = go options.constructs.frontmatter
  where
    go : (x : Bool) →
        NoLinks (events_of (cond x (front_from (front_marker (without_ending full)) full more p) None))
    go true = from-unlinked (front_marker (without_ending full)) full more p
    go false = tt

mark-unlinked : (text : List ℕ) → NoLinks (mark_events text)
mark-unlinked text = go (has_mark text)
  where
    go : (x : Bool) → NoLinks (cond x (pair n.ByteOrderMark first_point mark_end) [])
    go true = (refl, (refl, tt))
    go false = tt

pub front-unlinked : (options : ParseOptions) (text : List ℕ) → NoLinks (front_events options text)
unfolding text_front
front-unlinked options text =
    each-append IsUnlinked (mark_events text)
    (events_of (front_read options (full_lines_of (without_mark text)) (mark_point text))) (mark-unlinked text)
    (read-unlinked options (full_lines_of (without_mark text)) (mark_point text))

-- So all of them stay as they are where parts are read.
pub unwanted-stays : (wants : Content → Bool) (es : List Event) → Unwanted wants es → list_all (stays wants) es ≡ true
unwanted-stays wants [] h = refl
unwanted-stays wants (e ∷ es) h =
    and_from (stays wants e) (list_all (stays wants) es) (ap (λ (o : Option Content). is_none o) h.0)
    (unwanted-stays wants es h.1)

pub front-stays : (wants : Content → Bool) (options : ParseOptions) (text : List ℕ) →
    list_all (stays wants) (front_events options text) ≡ true
front-stays wants options text =
    unwanted-stays wants (front_events options text)
    (no_links-unwanted wants (front_events options text) (front-unlinked options text))
