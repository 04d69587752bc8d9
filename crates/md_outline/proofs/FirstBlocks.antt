-- Events after which each part has ended, before others: what is known of all of them is known of these and of the
-- others, and the outline of all is that of these and then that of the others.
use Rattle.std.proofs.Common.{◌≡◌, ℕ, Bool, true, List, [], ◌∷◌, ◌++◌, drop, take, take-append-drop, sym}
use Rattle.std.proofs.Common.{◌∙◌, ap, subst}
use Rattle.std.specs.Prelude.{Option, None}
use Rattle.std.specs.List.{list_all}
use Rattle.std.proofs.lemmas.Bool.{and_from, and_parts}
use Rattle.std.proofs.lemmas.List.Folds.{list_all-append}
use Rattle.md_engine.specs.declared.event.Event.{Event}
use Rattle.md_engine.specs.declared.event.Name.{Name}
use Rattle.md_meaning.specs.declared.outline.OutlineLine.{OutlineLine}
use Rattle.md_meaning.specs.Outline.{Entry, outline}
use Rattle.md_events.specs.Events.Nested.{Balanced, Matches, open_after, open_following}
use Rattle.md_events.specs.Events.Spelled.{OpenContainer, OpenLeaf, Reading, Text, read, read_by, role, spelled, unread}
use Rattle.md_events.proofs.NestedLemmas.{matches-front, matches-rest, open_after-append}
use Rattle.md_events.proofs.SpelledLemmas.{read-append}
use Rattle.md_outline.specs.HeadingDepths.{are_shallow, fits}
use Rattle.md_outline.specs.LinesAllowed.{LinesAllowed, Outside, Site, site_by}
use Rattle.md_outline.specs.ListsBegin.{AllRecorded, ListsBegin, Stage, stage_by}
use Rattle.md_outline.specs.OutlinePart.{Begins}
use Rattle.md_outline.specs.Outlined.{IsOutlined, Outlines, are_parted, has_shown_name, is_unparted, parts_by, span_by}
use Rattle.md_outline.specs.Outlined.{is_between_characters, text_begins_between}
use Rattle.md_outline.specs.declared.outline.TextSpan.{TextSpan}
use Rattle.md_outline.proofs.OutlineDepths.{all-closed}
use Rattle.md_outline.proofs.PartsOpen.{IsUnread, IsWithin, none-read, within-first, within-step}
use Rattle.md_outline.proofs.Shifted.{all-blocks, outline-blocks, read-then, then_blocks}

-- The walks over the events.

-- what is known of the events in front and of those after them, with these read before them
record Walks (bytes : List ℕ) (span : Option TextSpan) (site : Site) (stage : Stage) (r : Reading)
    (front back : List Event) : Type 0 where
  front_parted : are_parted bytes span front ≡ true
  front_lines : LinesAllowed bytes site front
  front_lists : ListsBegin bytes stage front
  parted : are_parted bytes None back ≡ true
  lines : LinesAllowed bytes Outside back
  lists : ListsBegin bytes AllRecorded back
  no_text : (read bytes r front).text ≡ None
  no_leaf : (read bytes r front).leaf ≡ None

walks-none : (bytes : List ℕ) (span : Option TextSpan) (site : Site) (stage : Stage) (r : Reading) (back : List Event) →
    are_parted bytes span back ≡ true → LinesAllowed bytes site back → ListsBegin bytes stage back →
    IsUnread span site stage r → Walks bytes span site stage r [] back
walks-none bytes span site stage r back parted lines lists is = record {
  front_parted = ap is_unparted is.span_none;
  front_lines = subst (λ (x : Site). LinesAllowed bytes x []) (sym is.outside) tt;
  front_lists = tt;
  parted = sym (ap (λ (x : Option TextSpan). are_parted bytes x back) is.span_none) ∙ parted;
  lines = subst (λ (x : Site). LinesAllowed bytes x back) is.outside lines;
  lists = subst (λ (x : Stage). ListsBegin bytes x back) is.all_recorded lists;
  no_text = is.no_text;
  no_leaf = is.no_leaf;
}

walks : (bytes : List ℕ) (names : List Name) (span : Option TextSpan) (site : Site) (stage : Stage) (r : Reading)
    (front back : List Event) →
    Matches names (front ++ back) → open_after names front ≡ [] → are_parted bytes span (front ++ back) ≡ true →
    LinesAllowed bytes site (front ++ back) → ListsBegin bytes stage (front ++ back) →
    IsWithin names span site stage r →
    Walks bytes span site stage r front back
walks bytes names span site stage r [] back matches closed parted lines lists is =
    walks-none bytes span site stage r back parted lines lists
    (none-read span site stage r (subst (λ (ns : List Name). IsWithin ns span site stage r) closed is))
walks bytes names span site stage r (e ∷ front) back matches closed parted lines lists is =
    let next : Option TextSpan = span_by e.kind (role e.name) e.point span in
    let parts = and_parts (parts_by bytes e.kind (role e.name) e.point span) (are_parted bytes next (front ++ back))
    parted in
    let rest = walks bytes (open_following names e.kind e.name) next (site_by bytes site e.kind (role e.name) e.point)
    (stage_by stage e.kind (role e.name) e.point) (read_by bytes e.kind (role e.name) e.point r) front back
    matches.1 closed parts.1 lines.1 lists.1
    (within-step bytes names span site stage r e.kind e.name e.point matches.0 lines.0 lists.0 is) in
    record {
      front_parted =
          and_from (parts_by bytes e.kind (role e.name) e.point span) (are_parted bytes next front) parts.0
          rest.front_parted;
      front_lines = (lines.0, rest.front_lines);
      front_lists = (lists.0, rest.front_lists);
      parted = rest.parted;
      lines = rest.lines;
      lists = rest.lists;
      no_text = rest.no_text;
      no_leaf = rest.no_leaf;
    }

-- The tree.

-- a half-read tree of which nothing is open is that of its blocks
only-blocks : (r : Reading) → r.outer ≡ [] → r.leaf ≡ None → r.text ≡ None → r ≡ record unread { here = r.here }
only-blocks r outer leaf text =
    let made : List OpenContainer → Option OpenLeaf → Option Text → Reading =
    λ o l t. record { outer = o; here = r.here; leaf = l; text = t } in
    ap (λ (o : List OpenContainer). made o r.leaf r.text) outer
    ∙ ap (λ (l : Option OpenLeaf). made [] l r.text) leaf
    ∙ ap (λ (t : Option Text). made [] None t) text

spelled-append : (bytes : List ℕ) (front back : List Event) → Balanced front → Balanced back →
    (read bytes unread front).text ≡ None → (read bytes unread front).leaf ≡ None →
    spelled (front ++ back) bytes ≡ then_blocks (spelled front bytes) (spelled back bytes)
unfolding spelled
spelled-append bytes front back first rest text leaf =
    ap (λ (r : Reading). r.here) (read-append bytes unread front back)
    ∙ ap (λ (r : Reading). (read bytes r back).here)
    (only-blocks (read bytes unread front) (all-closed bytes front first) leaf text)
    ∙ read-then (read bytes unread front).here bytes back (all-closed bytes back rest)

-- What is known of all events.

pub record IsDivided (front back : List Event) (bytes : List ℕ) : Type 0 where
  pub first : IsOutlined front bytes
  pub rest : IsOutlined back bytes
  pub joined : outline 0 (spelled front bytes) ++ outline 0 (spelled back bytes) ≡
      outline 0 (spelled (front ++ back) bytes)

all-parts : (test : Event → Bool) (front back : List Event) → list_all test (front ++ back) ≡ true →
    (list_all test front ≡ true) × (list_all test back ≡ true)
all-parts test front back h =
    and_parts (list_all test front) (list_all test back) (sym (list_all-append test front back) ∙ h)

pub divided : (front back : List Event) (bytes : List ℕ) → open_after [] front ≡ [] → IsOutlined (front ++ back) bytes →
    IsDivided front back bytes
divided front back bytes closed is =
    let first : Balanced front =
    record { matches = matches-front [] front back is.balanced.matches; closed = closed } in
    let rest : Balanced back = record {
      matches = subst (λ (ns : List Name). Matches ns back) closed (matches-rest [] front back is.balanced.matches);
      closed =
          sym (open_after-append [] front back ∙ ap (λ (ns : List Name). open_after ns back) closed)
          ∙ is.balanced.closed;
    } in
    let walked = walks bytes [] None Outside AllRecorded unread front back is.balanced.matches closed is.parted is.lines
    is.lists within-first in
    let tree : spelled (front ++ back) bytes ≡ then_blocks (spelled front bytes) (spelled back bytes) =
    spelled-append bytes front back first rest walked.no_text walked.no_leaf in
    let depths = all-blocks fits (spelled front bytes) (spelled back bytes) (sym (ap are_shallow tree) ∙ is.depths) in
    let names = all-parts has_shown_name front back is.names in
    let between = all-parts (is_between_characters bytes) front back is.between in
    let texts = all-parts (text_begins_between bytes) front back is.texts in
    record {
      first = record {
        balanced = first;
        names = names.0;
        text = is.text;
        between = between.0;
        texts = texts.0;
        parted = walked.front_parted;
        lists = walked.front_lists;
        lines = walked.front_lines;
        depths = depths.0;
      };
      rest = record {
        balanced = rest;
        names = names.1;
        text = is.text;
        between = between.1;
        texts = texts.1;
        parted = walked.parted;
        lists = walked.lists;
        lines = walked.lines;
        depths = depths.1;
      };
      joined = sym (ap (outline 0) tree ∙ outline-blocks 0 (spelled front bytes) (spelled back bytes));
    }

-- So the lines of some events in front are before the outline of the others.
pub part-begins : (events : List Event) (count : ℕ) (bytes : List ℕ) (lines : List OutlineLine) →
    (Balanced events → open_after [] (take count events) ≡ []) → Outlines (take count events) bytes lines →
    IsOutlined events bytes → Begins events (drop count events) bytes lines
part-begins events count bytes lines closed outlines is =
    let whole : take count events ++ drop count events ≡ events = take-append-drop count events in
    let parts = divided (take count events) (drop count events) bytes (closed is.balanced)
    (subst (λ (es : List Event). IsOutlined es bytes) (sym whole) is) in
    record {
      outlined = parts.rest;
      joined =
          ap (λ (es : List Entry). es ++ outline 0 (spelled (drop count events) bytes)) (outlines parts.first)
          ∙ parts.joined ∙ ap (λ (es : List Event). outline 0 (spelled es bytes)) whole;
    }
