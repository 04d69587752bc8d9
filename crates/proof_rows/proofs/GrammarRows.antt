-- The events of a text keep the grammar of events without lists, before its text parts are read and once they are.
use Rattle.md_engine.specs.declared.tokenizer.held_leaf.HeldLeaf.TheVariants as held_leaf
use Rattle.std.proofs.Common.{◌≡◌, ℕ, Bool, true, List, [], ◌∷◌, ◌++◌, refl, ap, sym, ◌∙◌, append_assoc}
use Rattle.proof_frame.specs.EndingName.{ending_name}
use Rattle.proof_frame.proofs.EndingFacts.{ending-unlists}
use Rattle.proof_rows.proofs.EndingRows.{EachEnded, groups-ended}
use Rattle.std.specs.Prelude.{Option, Some, None}
use Rattle.md_engine.specs.declared.configuration.ParseOptions.{ParseOptions}
use Rattle.md_engine.specs.declared.event.Event.{Event}
use Rattle.md_engine.specs.declared.event.Name.{Name}
use Rattle.md_engine.specs.declared.event.Point.{Point}
use Rattle.md_events.specs.Events.Grammar.{Expression, blocks, is_whole, plain_text, unread_text}
use Rattle.md_events.specs.Events.Nested.{pair}
use Rattle.md_containers.specs.Unlisted.{keeps_unlisted, unlisted_left}
use Rattle.md_containers.proofs.UnlistedLemmas.{Unlists, unlists-rest, unlists-same}
use Rattle.proof_frame.specs.Change.{ends_of}
use Rattle.proof_frame.specs.Row.{Row, ending_events}
use Rattle.proof_rows.specs.Rows.{final_row, first_row, front_done, group_done, Group, group_events, groups}
use Rattle.proof_rows.specs.Rows.{groups_events, tail_events, group_ending, is_blank_group}
use Rattle.proof_rows.specs.BlockList.{group_unread, tabled_group, tabled_groups}
use Rattle.proof_frame.proofs.ContainerNames.{TakesData, open_names}
use Rattle.proof_frame.proofs.GrammarFronts.{following-ends, blocks_after_each, blocks_after_each-append, blocks_after, ends-lead}
use Rattle.proof_frame.proofs.GrammarFronts.{front-leads}
use Rattle.proof_rows.proofs.GroupLines.{EndsBeforeGroups}
use Rattle.proof_rows.proofs.GroupLemmas.{rows-end}
use Rattle.proof_rows.proofs.JoinedLemmas.{EachNoContent}
use Rattle.proof_frame.proofs.LeafLines.Cuts.{ending-is}
use Rattle.proof_frame.proofs.FrontFacts.{LinePrefix}
use Rattle.proof_rows.proofs.NestedRows.{ByGroups, Ordered, rows-hold}
use Rattle.proof_rows.proofs.RowFacts.{AreRows}
use Rattle.proof_rows.proofs.GroupFacts.{IsGroupLeaf}
use Rattle.proof_leaf_laws.proofs.Frontmatter.Whole.{IsText, Leaves, Plain, ToEnd, ToLine, Unread}
use Rattle.std.proofs.Common.{◌≤◌, length, append-nil}
use Rattle.proof_frame.proofs.LeafAllowed.{roles-unlisted}

-- Groups, whatever is in text parts.

-- what is in the place of a group, from the front of its first line to the ending of its last: after its leaf, blocks
-- are left as they are after a block or not
record Valid (options : ParseOptions) (bytes : List ℕ) (text : Expression) (block : Bool) (group : Group)
    (events : List Event) : Type 0 where
  front : List Event
  fronts : (p : Point) → Ordered options bytes p group →
      LinePrefix bytes (first_row group).change.opens p (first_row group).first front
  leaf : List Event
  leads : Unlists text (blocks ∷ []) (blocks_after block ∷ []) leaf
  is : events ≡ front ++ leaf ++ tail_events (group_ending group) (final_row group)

-- the events of groups, by those of each
abbrev all_of : (Group → List Event) → List Group → List Event
all_of each [] = []
all_of each (group ∷ gs) = each group ++ all_of each gs

-- so it is in each group, in these text parts
abbrev Reads : ParseOptions → List ℕ → Expression → (Group → List Event) → Type 0
Reads options bytes text each =
    (group : Group) → IsGroupLeaf options bytes group →
    (block : Bool) × Valid options bytes text block group (each group)

-- the text is whole after events
abbrev Whole : Expression → List Expression → List Event → Type 0
Whole text stack events = is_whole (unlisted_left text stack events) ≡ true

-- what is left after the leaf of lines
leaf-left : (options : ParseOptions) (text : Expression) (bytes : List ℕ) (block : Bool) (names : List Name)
    (p : Point) (group : Group) (events more : List Event) →
    TakesData text → Ordered options bytes p group → Valid options bytes text block group events →
    unlisted_left text (blocks ∷ blocks_after_each names) (events ++ more) ≡
    unlisted_left text (blocks_after block ∷ blocks_after_each (open_names (first_row group).change.opens ++ names))
    (tail_events (group_ending group) (final_row group) ++ more)
leaf-left options text bytes block names p group events more takes o s =
    let row : Row = first_row group in
    let opens : List Expression = blocks_after_each (open_names row.change.opens) in
    let tail : List Event = tail_events (group_ending group) (final_row group) in
    let apart : (s.front ++ s.leaf ++ tail) ++ more ≡ s.front ++ (s.leaf ++ (tail ++ more)) = simp append_assoc in
    ap (λ (es : List Event). unlisted_left text (blocks ∷ blocks_after_each names) (es ++ more)) s.is
    ∙ ap (unlisted_left text (blocks ∷ blocks_after_each names)) apart
    ∙ unlists-rest text (blocks ∷ []) (blocks ∷ opens) (blocks_after_each names) s.front (s.leaf ++ (tail ++ more))
    (front-leads text bytes row.change.opens p row.first s.front takes (s.fronts p o))
    ∙ unlists-rest text (blocks ∷ []) (blocks_after block ∷ []) (opens ++ blocks_after_each names) s.leaf (tail ++ more) s.leads
    ∙ ap (λ (l : List Expression). unlisted_left text (blocks_after block ∷ l) (tail ++ more))
    (sym (blocks_after_each-append (open_names row.change.opens) names))

-- where nothing follows, nothing is open
none-whole : (block : Bool) (names : List Name) → is_whole (blocks ∷ blocks_after_each names) ≡ true →
    is_whole (blocks_after block ∷ blocks_after_each names) ≡ true
none-whole block [] h = following-ends block
none-whole block (name ∷ names) h = cc

-- after the ends of containers the line ends, if more follows
ending-whole : (text : Expression) (each : Group → List Event) (block : Bool) (kept : List Name) (row : Row)
    (blank : Bool) (gs : List Group) →
    EndsBeforeGroups row gs → Whole text (blocks ∷ blocks_after_each kept) (all_of each gs) →
    Whole text (blocks_after block ∷ blocks_after_each kept) (ending_events (ending_name blank) row ++ all_of each gs)
ending-whole text each block kept row blank gs ends h = go row.after refl gs ends h
  where
    some : (q : Point) (more : List Event) → row.after ≡ Some q → Whole text (blocks ∷ blocks_after_each kept) more →
        Whole text (blocks_after block ∷ blocks_after_each kept) (ending_events (ending_name blank) row ++ more)
    some q more after k =
        ap (λ (es : List Event). is_whole (unlisted_left text (blocks_after block ∷ blocks_after_each kept) (es ++ more)))
        (ending-is (ending_name blank) row q after)
        ∙ ap is_whole
        (unlists-rest text (blocks_after block ∷ []) (blocks ∷ []) (blocks_after_each kept)
        (pair (ending_name blank) row.end q) more (ending-unlists text blank row.end q block))
        ∙ k

    go : (after : Option Point) → row.after ≡ after → (gs : List Group) → EndsBeforeGroups row gs →
        Whole text (blocks ∷ blocks_after_each kept) (all_of each gs) →
        Whole text (blocks_after block ∷ blocks_after_each kept) (ending_events (ending_name blank) row ++ all_of each gs)
    go (Some q) after gs ends h = some q (all_of each gs) after h
    go None after [] ends h =
        ap
        (λ (x : Option Point).
        is_whole
        (unlisted_left text (blocks_after block ∷ blocks_after_each kept)
        (elim x [ None ↦ [] | Some q ↦ pair (ending_name blank) row.end q ] ++ []))) after
        ∙ none-whole block kept h
    go None after (g ∷ gs) ends h = let bad : None ≡ Some ends.0 = sym after ∙ ends.1 in cc

-- what is open after the leaf ends, or stays open
tail-whole : (text : Expression) (each : Group → List Event) (block : Bool) (all kept : List Name) (row : Row)
    (blank : Bool) (gs : List Group) →
    all ≡ open_names row.closed_after ++ kept → EndsBeforeGroups row gs →
    Whole text (blocks ∷ blocks_after_each kept) (all_of each gs) →
    Whole text (blocks_after block ∷ blocks_after_each all) (tail_events (ending_name blank) row ++ all_of each gs)
tail-whole text each block all kept row blank gs keeps ends h =
    let ended : (after : Bool) ×
    Unlists text (blocks_after block ∷ blocks_after_each (open_names row.closed_after)) (blocks_after after ∷ [])
    (ends_of row.closed_after row.end) = ends-lead text row.closed_after row.end block in
    let ending : List Event = ending_events (ending_name blank) row ++ all_of each gs in
    ap
    (λ (l : List Expression).
    is_whole (unlisted_left text (blocks_after block ∷ l) (tail_events (ending_name blank) row ++ all_of each gs)))
    (ap blocks_after_each keeps ∙ blocks_after_each-append (open_names row.closed_after) kept)
    ∙ ap
    (λ (es : List Event).
    is_whole (unlisted_left text (blocks_after block ∷ blocks_after_each (open_names row.closed_after) ++ blocks_after_each kept) es))
    (append_assoc (ends_of row.closed_after row.end) (ending_events (ending_name blank) row) (all_of each gs))
    ∙ ap is_whole
    (unlists-rest text (blocks_after block ∷ blocks_after_each (open_names row.closed_after)) (blocks_after ended.0 ∷ [])
    (blocks_after_each kept) (ends_of row.closed_after row.end) ending ended.1)
    ∙ ending-whole text each ended.0 kept row blank gs ends h

-- The groups of a text, where these names are open.
abbrev WholeUnder : Expression → (Group → List Event) → List Name → Point → List Group → Type 0
WholeUnder text each names p gs = EachEnded gs → Whole text (blocks ∷ blocks_after_each names) (all_of each gs)

-- group by group
whole-by_groups : (options : ParseOptions) (bytes : List ℕ) (text : Expression) (each : Group → List Event) →
    TakesData text → Reads options bytes text each → ByGroups options bytes (WholeUnder text each)
whole-by_groups options bytes text each takes reads = record {
  none = λ p ended. refl;
  group = λ names kept p group gs o keeps on ended.
      let s : (block : Bool) × Valid options bytes text block group (each group) = reads group o.leaf in
      ap is_whole (leaf-left options text bytes s.0 names p group (each group) (all_of each gs) takes o s.1)
      ∙ tail-whole text each s.0 (open_names (first_row group).change.opens ++ names) kept (final_row group)
      (is_blank_group group) gs keeps ended.0 (on ended.1);
}

-- A text part takes data, before it is read and once it is.
text-takes : (text : Expression) → IsText text → TakesData text
text-takes _ Unread = refl
text-takes _ Plain = refl

-- The front of a text, and its groups.
rows-keep : (options : ParseOptions) (bytes : List ℕ) (p : Point) (front : List Event) (text : Expression)
    (each : Group → List Event) (lines : List (List ℕ)) (rows : List Row) →
    IsText text → Leaves bytes p front → (length bytes ≤ p.index → all_of each (groups rows) ≡ []) →
    Reads options bytes text each → AreRows options bytes [] held_leaf.None p lines rows → EachNoContent rows →
    keeps_unlisted text (front ++ all_of each (groups rows)) ≡ true
rows-keep options bytes p front text each lines rows kind (ToLine leads whole) none reads are quiet =
    whole text kind (all_of each (groups rows))
    (rows-hold options bytes (WholeUnder text each)
    (whole-by_groups options bytes text each (text-takes text kind) reads) p lines rows are
    (groups-ended rows (rows-end options bytes [] held_leaf.None p lines rows are)))
rows-keep options bytes p front text each lines rows kind (ToEnd over are_valid whole) none reads are quiet =
    ap (λ (es : List Event). keeps_unlisted text (front ++ es)) (none over)
    ∙ ap (keeps_unlisted text) (append-nil front) ∙ whole text kind

-- Before text parts are read.

-- each group
unread-reads : (options : ParseOptions) (bytes : List ℕ) → Reads options bytes unread_text (tabled_group options bytes)
unread-reads options bytes group is =
    let leaf : List Event = group_unread options bytes group in (
      is.1.following,
      record {
        front = (first_row group).front;
        fronts = λ p o. o.front;
        leaf = leaf;
        leads =
            unlists-same unread_text (blocks ∷ []) (blocks_after is.1.following ∷ []) leaf
            (roles-unlisted leaf is.1.stretch.unread_roles)
            is.1.unread_word;
        is = refl;
      },
    )

-- all of them
unread-all : (options : ParseOptions) (bytes : List ℕ) (gs : List Group) →
    tabled_groups options bytes gs ≡ all_of (tabled_group options bytes) gs
unread-all options bytes [] = refl
unread-all options bytes (g ∷ gs) =
    ap (λ (es : List Event). tabled_group options bytes g ++ es) (unread-all options bytes gs)

-- The events of a text keep the grammar before its text parts are read.
pub blocks-grammar : (options : ParseOptions) (bytes : List ℕ) (p : Point) (front : List Event)
    (lines : List (List ℕ)) (rows : List Row) →
    Leaves bytes p front → (length bytes ≤ p.index → tabled_groups options bytes (groups rows) ≡ []) →
    AreRows options bytes [] held_leaf.None p lines rows → EachNoContent rows →
    keeps_unlisted unread_text (front ++ tabled_groups options bytes (groups rows)) ≡ true
blocks-grammar options bytes p front lines rows leaves none are quiet =
    let all = unread-all options bytes (groups rows) in
    ap (λ (es : List Event). keeps_unlisted unread_text (front ++ es)) all
    ∙ rows-keep options bytes p front unread_text (tabled_group options bytes) lines rows Unread leaves
    (λ over. sym all ∙ none over) (unread-reads options bytes) are quiet

-- Once they are read.

-- each group
group-reads : (options : ParseOptions) (bytes : List ℕ) → Reads options bytes plain_text (group_events options bytes)
group-reads options bytes group is =
    let leaf : List Event = group_done options bytes group in (
      is.1.following,
      record {
        front = front_done bytes (first_row group);
        fronts = λ p o. o.front_read.is;
        leaf = leaf;
        leads = unlists-same plain_text (blocks ∷ []) (blocks_after is.1.following ∷ []) leaf
            (roles-unlisted leaf is.1.stretch.roles) is.1.word;
        is = refl;
      },
    )

-- all of them
groups-all : (options : ParseOptions) (bytes : List ℕ) (gs : List Group) →
    groups_events options bytes gs ≡ all_of (group_events options bytes) gs
groups-all options bytes [] = refl
groups-all options bytes (g ∷ gs) =
    ap (λ (es : List Event). group_events options bytes g ++ es) (groups-all options bytes gs)

-- The events of a text keep the grammar, as the plain layer reads its text parts.
pub events-grammar : (options : ParseOptions) (bytes : List ℕ) (p : Point) (front : List Event)
    (lines : List (List ℕ)) (rows : List Row) →
    Leaves bytes p front → (length bytes ≤ p.index → groups_events options bytes (groups rows) ≡ []) →
    AreRows options bytes [] held_leaf.None p lines rows → EachNoContent rows →
    keeps_unlisted plain_text (front ++ groups_events options bytes (groups rows)) ≡ true
events-grammar options bytes p front lines rows leaves none are quiet =
    let all = groups-all options bytes (groups rows) in
    ap (λ (es : List Event). keeps_unlisted plain_text (front ++ es)) all
    ∙ rows-keep options bytes p front plain_text (group_events options bytes) lines rows Plain leaves
    (λ over. sym all ∙ none over) (group-reads options bytes) are quiet
