-- The further lines of a leaf, one by one, where each has a begin and an end: from what each is follows what the leaf
-- is with them, as events and by the line definition.
use Rattle.std.proofs.Common.{◌≡◌, ℕ, Bool, true, false, cond, ◌&&◌, ◌||◌, not, List, [], ◌∷◌, ◌++◌, refl}
use Rattle.std.proofs.Common.{sym, ap, ap₂, ◌∙◌, subst}
use Rattle.std.specs.Prelude.{◌==◌, Some, if◌then◌else◌}
use Rattle.std.specs.List.{list_all}
use Rattle.std.proofs.lemmas.Bool.{and_parts}
use Rattle.md_engine.specs.declared.configuration.ParseOptions.{ParseOptions}
use Rattle.md_engine.specs.declared.event.Event.{Event}
use Rattle.md_engine.specs.declared.event.Kind.{Kind}
use Rattle.md_engine.specs.declared.event.Kind.TheVariants.{Enter, Exit}
use Rattle.md_engine.specs.declared.event.Name.{Name}
use Rattle.md_engine.specs.declared.event.Name.TheVariants as n
use Rattle.md_engine.specs.declared.event.Point.{Point}
use Rattle.md_meaning.specs.Leaves.{LeafResult}
use Rattle.md_meaning.specs.State.{shut, then_block}
use Rattle.md_meaning.specs.Step.{became}
use Rattle.md_meaning.specs.Tree.{Block, Blocks}
use Rattle.md_leaves.specs.Further.{further_link}
use Rattle.md_leaves.specs.Spanned.{has_lines}
use Rattle.md_outline.specs.LinesAllowed.{Site}
use Rattle.md_outline.proofs.LinesPass.{IsOnLine, MayLeave, ended_site}
use Rattle.md_events.specs.Events.Endings.{Ends, IsLeaf, IsOther, OnLine, endings_are_right_from, ends_as_begun}
use Rattle.md_events.specs.Events.Endings.{on_line, spot_after}
use Rattle.md_events.specs.Events.Grammar.{Expression, following, may_end}
use Rattle.md_events.specs.Events.Inline.{is_linked}
use Rattle.md_events.specs.Events.Nested.{Balanced, Fits, enter_link, exit}
use Rattle.md_events.specs.Events.Spelled.{OpenLeaf, block_of, role}
use Rattle.md_events.specs.Events.Tiles.{plain_read}
use Rattle.md_events.proofs.EndingsLemmas.{AreOthers, Leads, in_leaf, is_other, leads-append, others-lead}
use Rattle.proof_frame.specs.Row.{Row, but_ends, ending_events, is_empty_row, is_framed, last_row}
use Rattle.proof_frame.proofs.ContainerNames.{TakesPrefixes}
use Rattle.proof_frame.proofs.FrontFacts.{LinePrefix}
use Rattle.proof_frame.proofs.FrontLemmas.{fronts-balanced}
use Rattle.proof_frame.proofs.FrontPlaces.{fronts-columns}
use Rattle.proof_frame.proofs.FrontValid.{fronts-others}
use Rattle.proof_frame.proofs.PartedFacts.{clear}
use Rattle.proof_frame.proofs.PrefixFacts.{is_bare}
use Rattle.md_events.proofs.FeedLines.{IsEnding}
use Rattle.proof_frame.proofs.LeafLines.Cuts.{but_ends-is, ending-is}
use Rattle.proof_frame.proofs.LeafLines.Framed.{AreFramed, framed_rest}
use Rattle.proof_frame.proofs.LeafLines.Inside.{InsideFacts}
use Rattle.proof_frame.proofs.PartsFacts.{following_ending}
use Rattle.proof_frame.proofs.LeafLines.Lines.{AreFurther, SpanLine, ends-by}

-- What is read of a line: a further one, which is linked to the one in front, has no text parts.
abbrev pub leads_back : List Event → Bool
leads_back [] = false
leads_back (e ∷ es) = is_linked e

abbrev pub row_unread : Row → List Event
row_unread row = row.inside

abbrev pub row_done : List ℕ → Row → List Event
row_done bytes row = if leads_back row.inside then row.inside else plain_read bytes row.inside

-- What the line definition has is this block, once it is shut.
abbrev pub ShutsAs : LeafResult → Block → Type 0
ShutsAs c block = (options : ParseOptions) (bs : Blocks) → shut options (became bs c) ≡ then_block bs block

-- Whether anything is on the last of some lines, in a leaf on a line on which something is, or nothing.

abbrev pub full_after : Bool → List Row → Bool
full_after full [] = full
full_after full (next ∷ rows) = full_after (not next.empty) rows

pub full-last : (full : Bool) (row : Row) (rows : List Row) → full ≡ not row.empty →
    full_after full rows ≡ not (last_row row rows).empty
full-last full row [] e = e
full-last full row (next ∷ rows) e = full-last (not next.empty) next rows refl

-- events that are parts of a leaf fill a line, if there are any
pub others-fill : (full : Bool) (es : List Event) → AreOthers es → Balanced es →
    Leads (in_leaf full) (in_leaf (full || not (is_bare es))) es
others-fill true es others balanced = others-lead (in_leaf true) es refl others
others-fill false [] others balanced = λ ys. refl
others-fill false (e ∷ es) others balanced = λ ys.
    let both : (is_other (on_line e.name) ≡ true) ×
    AreOthers es = and_parts (is_other (on_line e.name))
    (list_all (λ (f : Event). is_other (on_line f.name)) es) others in
    one e.kind e.name (on_line e.name) (es ++ ys) balanced.matches.0 both.0
    ∙ others-lead (in_leaf true) es refl both.1 ys
  where
    one : (kind : Kind) (name : Name) (x : OnLine) (zs : List Event) → Fits [] kind name → is_other x ≡ true →
        (ends_as_begun kind x (in_leaf false) && endings_are_right_from (spot_after kind x (in_leaf false)) zs) ≡
        endings_are_right_from (in_leaf true) zs
    one Enter name IsOther zs fits h = refl
    one Enter name IsLeaf zs fits h = cc
    one Enter name (Ends blank) zs fits h = cc
    one Exit name x zs fits h = absurd fits

-- A further line, before which this is left of the grammar, and that after it; it is read from this leaf to that, and
-- an outline goes from here in it to there.
pub record FurtherLine (bytes : List ℕ) (name : Name) (x left : Expression) (from leaf : OpenLeaf) (start site : Site)
    (row : Row) : Type 0
  where
    pub parts : List Event
    pub is : row.inside ≡
        (enter_link name row.first further_link ∷ parts ++ exit name row.end ∷ [])
    pub whole : row.end.vs ≡ 0
    pub clear : clear bytes row.first ≡ true
    pub others : AreOthers parts
    pub balanced : Balanced parts
    -- nothing is in it just where it ends where it began; its ending is then that of a blank line, where no prefix is
    -- in front
    pub bare : is_bare parts ≡ is_empty_row row
    pub empty : row.empty ≡ (is_empty_row row && (row.first.column == 1))
    pub facts : InsideFacts bytes row.first row.end x left from leaf start site parts parts

-- Further lines after one: what the leaf is with them.
pub record HasRest (bytes : List ℕ) (name : Name) (left : Expression) (leaf : OpenLeaf) (site : Site) (row : Row)
    (rows : List Row) (c : LeafResult) : Type 0 where
  pub to : OpenLeaf
  -- each has a begin and an end
  pub framed : AreFramed row_unread rows
  pub further : AreFurther bytes row_unread (row_done bytes) name left leaf to site row rows
  -- the block is that of the line definition
  pub shuts : ShutsAs c (block_of to)
  -- whether something is on the last line, as its endings say
  pub fills : (full : Bool) → Leads (in_leaf full) (in_leaf (full_after full rows)) (framed_rest row_unread row rows)
  -- nothing is read of them
  pub same : framed_rest (row_done bytes) row rows ≡ framed_rest row_unread row rows

-- none
pub rest-none : (bytes : List ℕ) (name : Name) (left : Expression) (leaf : OpenLeaf) (site : Site) (row : Row)
    (c : LeafResult) →
    may_end left ≡ true → MayLeave site → ShutsAs c (block_of leaf) → HasRest bytes name left leaf site row [] c
rest-none bytes name left leaf site row c ends leave shuts = record {
  to = leaf;
  framed = tt;
  further = (ends, refl, leave);
  shuts = shuts;
  fills = λ full ys. refl;
  same = refl;
}

-- one more in front
pub rest-more : (bytes : List ℕ) (name : Name) (left x after : Expression) (leaf to : OpenLeaf) (site end : Site)
    (row next : Row) (rows : List Row) (c : LeafResult) (q : Point) →
    row.after ≡ Some q → IsEnding bytes row.end q → LinePrefix bytes [] q next.first next.front →
    has_lines (role name) ≡ true → following n.LineEnding left ≡ x → TakesPrefixes x → IsOnLine site →
    FurtherLine bytes name x after (following_ending bytes q leaf) to (ended_site bytes q site) end next →
    HasRest bytes name after to end next rows c → HasRest bytes name left leaf site row (next ∷ rows) c
rest-more bytes name left x after leaf to site end row next rows c q at ending front has e takes on line rest = record {
  to = rest.to;
  framed = (
    ap is_framed line.is ∙ ap (λ (x : Bool). x || is_framed (line.parts ++ exit name next.end ∷ [])) has,
    rest.framed,
  );
  further = (q, at, ending, front, subst TakesPrefixes (sym e) takes, on, one, rest.further);
  shuts = rest.shuts;
  fills = λ full.
      leads-append (in_leaf full) (in_leaf (not (is_bare next.front) || not (is_bare line.parts)))
      (in_leaf (full_after full (next ∷ rows))) (ended ++ next.front ++ but_ends next.inside)
      (framed_rest row_unread next rows)
      (leads-append (in_leaf full) (in_leaf (not (is_bare next.front)))
      (in_leaf (not (is_bare next.front) || not (is_bare line.parts))) (ended ++ next.front) (but_ends next.inside)
      (leads-append (in_leaf full) (in_leaf false) (in_leaf (not (is_bare next.front))) ended next.front
      (subst (λ (es : List Event). Leads (in_leaf full) (in_leaf false) es) (sym (ending-is n.LineEnding row q at))
      (λ ys. refl))
      (others-fill false next.front (fronts-others bytes [] q next.first next.front front)
      (fronts-balanced bytes [] q next.first next.front front refl)))
      (subst
      (λ (es : List Event).
      Leads (in_leaf (not (is_bare next.front))) (in_leaf (not (is_bare next.front) || not (is_bare line.parts))) es)
      (sym parts) (others-fill (not (is_bare next.front)) line.parts line.others line.balanced)))
      (subst
      (λ (full : Bool). Leads (in_leaf full) (in_leaf (full_after (not next.empty) rows))
      (framed_rest row_unread next rows)) (sym filled) (rest.fills (not next.empty)));
  same =
      ap₂ (λ (es fs : List Event). ended ++ next.front ++ but_ends es ++ fs) done rest.same;
}
  where
    ended : List Event
    ended = ending_events n.LineEnding row

    done : row_done bytes next ≡ next.inside
    done =
        ap (λ (es : List Event). cond (leads_back es) es (plain_read bytes es)) line.is ∙ sym line.is

    parts : but_ends next.inside ≡ line.parts
    parts = ap but_ends line.is ∙ but_ends-is (enter_link name next.first further_link) line.parts (exit name next.end)

    -- after an ending prefixes alone take columns
    filled : (not (is_bare next.front) || not (is_bare line.parts)) ≡ not next.empty
    filled =
        ap₂ (λ (a b : Bool). not a || not b)
        ((fronts-columns bytes [] q next.first next.front front refl).1
        ∙ ap (λ (n : ℕ). next.first.column == n) ending.column) line.bare
        ∙ both (next.first.column == 1) (is_empty_row next)
        ∙ ap not (sym line.empty)
      where
        both : (a b : Bool) → (not a || not b) ≡ not (b && a)
        both true true = refl
        both true false = refl
        both false true = refl
        both false false = refl

    one :
        SpanLine bytes row_unread (row_done bytes) name (following n.LineEnding left) (following_ending bytes q leaf)
        (ended_site bytes q site) next
    one = record {
      ends =
          ends-by row_unread (row_done bytes) name next (enter_link name next.first further_link ∷ line.parts)
          (enter_link name next.first further_link ∷ line.parts) line.whole line.is (done ∙ line.is);
      clear = line.clear;
      left = after;
      leaf = to;
      site = end;
      facts =
          subst
          (λ (y : Expression).
          InsideFacts bytes next.first next.end y after (following_ending bytes q leaf) to (ended_site bytes q site) end
          (but_ends next.inside) (but_ends (row_done bytes next))) (sym e)
          (subst
          (λ (es : List Event).
          InsideFacts bytes next.first next.end x after (following_ending bytes q leaf) to (ended_site bytes q site) end
          (but_ends next.inside) (but_ends es)) (sym done)
          (subst
          (λ (es : List Event).
          InsideFacts bytes next.first next.end x after (following_ending bytes q leaf) to
          (ended_site bytes q site) end es
          es) (sym parts)
          line.facts));
    }
