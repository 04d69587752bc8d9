-- A line that shows no block, after a leaf: what is known of both together.
--
-- Between them are the ending of the leaf, and prefixes of the containers that continue.
use Rattle.std.proofs.Common.{◌≡◌, ℕ, Bool, true, List, [], ◌∷◌, ◌++◌, map, refl, sym, ◌∙◌, ap, subst₂}
use Rattle.std.proofs.Common.{append-nil, append_assoc}
use Rattle.std.specs.Prelude.{None, not, Option, Some}
use Rattle.md_engine.specs.declared.event.Event.{Event}
use Rattle.md_engine.specs.declared.event.Point.{Point}
use Rattle.md_containers.proofs.UnlistedLemmas.{among, valid-append as places-append}
use Rattle.md_meaning.specs.Tree.{Block}
use Rattle.md_leaves.specs.Spanned.{renamed}
use Rattle.md_leaves.specs.declared.spans.Place.TheVariants.{Outside}
use Rattle.md_outline.specs.Between.{is_between}
use Rattle.md_events.specs.Events.Endings.{line_start}
use Rattle.md_events.specs.Events.Grammar.{Expression, blocks, plain_text, unread_text}
use Rattle.md_events.specs.Events.Nested.{pair}
use Rattle.md_events.specs.Events.Spelled.{IsEnding as EndingRole, IsPrefix, IsQuiet, IsQuoteMarker, Reading, Role}
use Rattle.md_events.proofs.EndingsLemmas as ending
use Rattle.md_events.proofs.EndingsLemmas.{others-lead}
use Rattle.md_events.proofs.GrammarLemmas as grammar
use Rattle.md_events.proofs.SpelledLemmas.{Between, Roles, Unmarked, read-between, read-from, unmarked-append}
use Rattle.proof_frame.specs.EndingName.{ending_name}
use Rattle.proof_frame.specs.Row.{Row, is_blank_row, last_row, span_after}
use Rattle.proof_frame.proofs.BetweenFacts.{ending-before, ending-following}
use Rattle.proof_frame.proofs.EndingFacts.{ended-unmarked, ending-leads, ending-word, stretch-ended}
use Rattle.proof_frame.proofs.EventNames.{part-no_container}
use Rattle.proof_frame.proofs.FrontFacts.{LinePrefix}
use Rattle.proof_frame.proofs.FrontNames.{fronts-unmarked}
use Rattle.proof_frame.proofs.FrontValid.{fronts-between, fronts-others, stretch-front}
use Rattle.proof_frame.proofs.GrammarFronts.{blocks_after, front-stays}
use Rattle.proof_frame.proofs.LeafFacts.{LeafFacts, EventFacts, shown, spot_after}
use Rattle.proof_frame.proofs.LeafAllowed.{between-part, between-are_valid}
use Rattle.proof_frame.proofs.PartedFacts.{clear}
use Rattle.proof_frame.proofs.PlainFacts.{ArePlain, Untold, plain-append, plain-untold}
use Rattle.proof_frame.proofs.Stretch.{Stretch, roles-as, stretch-append, stretch-as}
use Rattle.md_events.proofs.FeedLines.{IsEnding}
use Rattle.proof_frame.proofs.LeafLines.Cuts.{ending-is}

-- What is between two lines, from the end of one to the begin of the other: the ending of the first, by whether this is
-- blank to its ending, and prefixes.
pub record GapFacts (bytes : List ℕ) (blank : Bool) (p q : Point) (gap : List Event) : Type 0 where
  -- it is between blocks
  pub stretch : Stretch Between bytes p q gap gap
  -- after it blocks may be, and a line begins
  pub word : (text : Expression) (block : Bool) → grammar.Leads text (blocks_after block ∷ []) (blocks ∷ []) gap
  pub ending : ending.Leads (spot_after (not blank)) line_start gap
  -- it gives no quote a kind
  pub unmarked : Unmarked bytes gap
  -- it begins and ends between characters
  pub before : is_between bytes p.index ≡ true
  pub following : is_between bytes q.index ≡ true

pub gap-facts : (bytes : List ℕ) (blank : Bool) (p at q : Point) (front : List Event) → p.vs ≡ 0 →
    IsEnding bytes p at → LinePrefix bytes [] at q front →
    GapFacts bytes blank p q (pair (ending_name blank) p at ++ front)
gap-facts bytes blank p at q front whole is fronts = record {
  stretch =
      stretch-append (stretch-ended Between bytes blank p at tt tt whole is)
      (stretch-front Between bytes at q front tt tt tt fronts) (λ first last. ending-following bytes p at is);
  word = λ text block.
      grammar.leads-append text (blocks_after block ∷ []) (blocks ∷ []) (blocks ∷ []) ended front
      (ending-word text blank p at block)
      (front-stays text blocks bytes [] at q front (refl, refl) fronts refl);
  ending =
      ending.leads-append (spot_after (not blank)) line_start line_start ended front (ending-leads blank p at)
      (others-lead line_start front refl (fronts-others bytes [] at q front fronts));
  unmarked =
      unmarked-append bytes ended front (ended-unmarked bytes blank p at) (fronts-unmarked bytes at q front fronts);
  before = ending-before bytes p at is;
  following = (fronts-between bytes [] at q front (ending-following bytes p at is) fronts).1;
}
  where
    ended : List Event
    ended = pair (ending_name blank) p at

-- what is between blocks is shown, and shows no text
between-untold : (x : Role) → Between x → Untold x
between-untold IsQuiet h = (refl, refl)
between-untold IsPrefix h = (refl, refl)
between-untold IsQuoteMarker h = (refl, refl)
between-untold EndingRole h = (refl, refl)
between-untold _ h = absurd h

pub gap-plain : (bytes : List ℕ) (gap : List Event) → Roles Between gap → ArePlain bytes gap
gap-plain bytes gap roles = plain-untold bytes gap (roles-as between-untold gap roles)

-- Events with others after them, and what is between two lines between them: all of them are from the begin of the
-- first to the end of the last. No tab of a character is cut where the others begin.
pub are_valid-following : {bytes : List ℕ} {blank full : Bool} {p e at q : Point} {us ds gap vs ws : List Event} →
    EventFacts bytes (not blank) p e us ds → GapFacts bytes blank e at gap → clear bytes at ≡ true →
    EventFacts bytes full at q vs ws → EventFacts bytes full p q (us ++ (gap ++ vs)) (ds ++ (gap ++ ws))
are_valid-following {bytes = bytes} {blank = blank} {full = full} {us = us} {ds = ds} {gap = gap} {vs = vs} {ws = ws}
    h g whole k = record {
      stretch =
          stretch-append h.stretch
          (stretch-append (stretch-as (λ x b. part-no_container x (between-part x b)) g.stretch) k.stretch
          (λ first last. g.following)) (λ first last. g.before);
      following = k.following;
      unread_word = word unread_text us vs h.unread_word k.unread_word;
      word = word plain_text ds ws h.word k.word;
      unread_ending = ends us vs h.unread_ending k.unread_ending;
      ending = ends ds ws h.ending k.ending;
      valid = λ held.
          places-append bytes (among held) (among held) (among held) ds (gap ++ ws) (h.valid held)
          (places-append bytes (among held) (among held) (among held) gap ws
          (between-are_valid bytes held gap g.stretch.roles) (k.valid held));
      plain = λ first.
          plain-append bytes ds (gap ++ ws) (h.plain first)
          (plain-append bytes gap ws (gap-plain bytes gap g.stretch.roles) (k.plain whole));
    }
  where
    word : (text : Expression) (es fs : List Event) →
        grammar.Leads text (blocks ∷ []) (blocks_after h.following ∷ []) es →
        grammar.Leads text (blocks ∷ []) (blocks_after k.following ∷ []) fs →
        grammar.Leads text (blocks ∷ []) (blocks_after k.following ∷ []) (es ++ (gap ++ fs))
    word text es fs first then =
        grammar.leads-append text (blocks ∷ []) (blocks_after h.following ∷ []) (blocks_after k.following ∷ []) es
        (gap ++ fs) first
        (grammar.leads-append text (blocks_after h.following ∷ []) (blocks ∷ []) (blocks_after k.following ∷ []) gap fs
        (g.word text h.following) then)

    ends : (es fs : List Event) → ending.Leads line_start (spot_after (not blank)) es →
        ending.Leads line_start (spot_after full) fs →
        ending.Leads line_start (spot_after full) (es ++ (gap ++ fs))
    ends es fs first then =
        ending.leads-append line_start (spot_after (not blank)) (spot_after full) es (gap ++ fs) first
        (ending.leads-append (spot_after (not blank)) line_start (spot_after full) gap fs g.ending then)

-- The leaf with the line after it shows what the leaf does; after it one is as after the line.
pub facts-following : {bytes : List ℕ} {block : Option Block} {blank full : Bool} {p e at q : Point}
    {us ds gap vs ws : List Event} →
    LeafFacts bytes block (not blank) p e us ds → GapFacts bytes blank e at gap → clear bytes at ≡ true →
    LeafFacts bytes None full at q vs ws → LeafFacts bytes block full p q (us ++ (gap ++ vs)) (ds ++ (gap ++ ws))
facts-following {bytes = bytes} {block = block} {ds = ds} {gap = gap} {ws = ws} h g whole k = record {
  are_valid = are_valid-following h.are_valid g whole k.are_valid;
  reads = λ r text shut.
      let s = shown block r in
      let same = still block r in
      read-from bytes r s ds (gap ++ ws) (h.reads r text shut)
      ∙ read-from bytes s s gap ws
      (read-between bytes s gap (same.0 ∙ text) (same.1 ∙ shut) g.stretch.roles g.unmarked)
      ∙ k.reads s (same.0 ∙ text) (same.1 ∙ shut);
}
  where
    -- a block more leaves what is open as it is
    still : (block : Option Block) (r : Reading) →
        ((shown block r).text ≡ r.text) × ((shown block r).leaf ≡ r.leaf)
    still None r = (refl, refl)
    still (Some b) r = (refl, refl)

-- Lines.

-- A line that is so, as whitespace.
pub record IsOutside (bytes : List ℕ) (f : Row → List Event) (row : Row) : Type 0 where
  -- no tab of a character is cut where it begins, and none where it ends
  pub clear : clear bytes row.first ≡ true
  pub whole : row.end.vs ≡ 0
  pub facts :
      LeafFacts bytes None (not (is_blank_row row)) row.first row.end (map (renamed Outside) (f row))
      (map (renamed Outside) (f row))

-- such lines after one, after prefixes of the containers alone
abbrev pub AreOutside : List ℕ → (Row → List Event) → Row → List Row → Type 0
AreOutside bytes f row [] = Unit {0}
AreOutside bytes f row (next ∷ rows) =
    (q : Point) × (after : row.after ≡ Some q) × (ending : IsEnding bytes row.end q)
    × (front : LinePrefix bytes [] q next.first next.front)
    × (is : IsOutside bytes f next) × AreOutside bytes f next rows

-- A leaf that ends on a line, with such lines after it.
pub rows-following : (bytes : List ℕ) (block : Option Block) (f : Row → List Event) (p : Point) (row : Row)
    (rows : List Row) (unread done : List Event) →
    row.end.vs ≡ 0 → LeafFacts bytes block (not (is_blank_row row)) p row.end unread done →
    AreOutside bytes f row rows →
    LeafFacts bytes block (not (is_blank_row (last_row row rows))) p (last_row row rows).end
    (unread ++ span_after f row rows) (done ++ span_after f row rows)
rows-following bytes block f p row [] us ds whole h are =
    subst₂ (λ (xs ys : List Event). LeafFacts bytes block (not (is_blank_row row)) p row.end xs ys)
    (sym (append-nil us)) (sym (append-nil ds)) h
rows-following bytes block f p row (next ∷ rows) us ds whole h are =
    subst₂
    (λ (xs ys : List Event).
    LeafFacts bytes block (not (is_blank_row (last_row next rows))) p (last_row next rows).end xs ys) (apart us)
    (apart ds)
    (rows-following bytes block f p next rows (us ++ (gap ++ line)) (ds ++ (gap ++ line)) are.4.whole
    (facts-following h (gap-facts bytes (is_blank_row row) row.end are.0 next.first next.front whole are.2 are.3)
    are.4.clear are.4.facts) are.5)
  where
    gap : List Event
    gap = pair (ending_name (is_blank_row row)) row.end are.0 ++ next.front

    line : List Event
    line = map (renamed Outside) (f next)

    apart : (es : List Event) →
        (es ++ (gap ++ line)) ++ span_after f next rows ≡ es ++ span_after f row (next ∷ rows)
    apart es =
        append_assoc es (gap ++ line) (span_after f next rows)
        ∙ ap (λ (l : List Event). es ++ (l ++ next.front ++ line ++ span_after f next rows))
        (sym (ending-is (ending_name (is_blank_row row)) row are.0 are.1))
