-- Where flow has read all of a text that ends with a line ending, and waits for a line in no container where a text is
-- open, a paragraph is open by the line definition, and no container. Where it waits outside of leaves, too, nothing is
-- open.
use Rattle.md_engine.specs.declared.tokenizer.held_leaf.HeldLeaf.{HeldLeaf}
use Rattle.md_engine.specs.declared.tokenizer.held_leaf.HeldLeaf.TheVariants as held_leaf
use Rattle.md_engine.specs.declared.tokenizer.held_leaf.OpenText.{OpenText}
use Rattle.std.proofs.Common.{◌≡◌, ◌⊎◌, inl, inr, ◌^◌, ◌<◌, ◌≤◌, ◌+◌, ◌-◌, ℕ, zero, suc, Bool, true, false, cond, not}
use Rattle.std.proofs.Common.{List, [], ◌∷◌, ◌++◌, length, take, drop, map, refl, ap, ap₂, sym, ◌∙◌, subst, arith}
use Rattle.std.proofs.Common.{nat_lt, append-nil}
use Rattle.std.specs.Prelude.{Option, Some, None}
use Rattle.md_engine.specs.declared.configuration.ParseOptions.{ParseOptions}
use Rattle.md_engine.specs.declared.event.Point.{Point}
use Rattle.md_engine.specs.declared.state.Name.{Name as StateName}
use Rattle.md_engine.specs.declared.state.Name.TheVariants as s
use Rattle.md_engine.specs.declared.state.document.State.TheVariants as document
use Rattle.md_engine.specs.declared.state.State.{State}
use Rattle.md_engine.specs.declared.tokenizer.Frame.{Frame}
use Rattle.md_engine.specs.declared.tokenizer.container.Container.{Container as Held}
use Rattle.md_engine.specs.Meaning.{Accepts, Cell, Fails, Here, Outcome, Refuses, here, resume_all, whole_outcome}
use Rattle.md_engine.specs.Run.{Calls, Runs}
use Rattle.md_engine.specs.Run.Runs.{Stays, ThenCalls, ThenLeaves}
use Rattle.md_engine.specs.TextFeed.{text_feed}
use Rattle.md_engine.specs.World.{Setting, World, looks}
use Rattle.md_engine.proofs.Keeps.{runs-setting}
use Rattle.md_events.proofs.FeedLines.{feed-none}
use Rattle.md_events.specs.Events.Places.{last_line}
use Rattle.md_events.specs.Exact.Places.{TextLine, line_at, lines_from, whole}
use Rattle.md_events.specs.Exact.Prefixes.{containers}
use Rattle.md_leaves.specs.BlankRule.{blank_at}
use Rattle.std.specs.List.{onto_first}
use Rattle.md_meaning.specs.Lines.{ends_line, full_lines_of}
use Rattle.md_meaning.specs.Preamble.{rest_at, rests_at}
use Rattle.md_meaning.specs.Rest.{Rest}
use Rattle.md_meaning.specs.State.{At, Container, Innermost, Leaf, NoLeaf, OpenCode, OpenFence, OpenHtml, OpenParagraph}
use Rattle.md_meaning.specs.State.{OpenTable, Path, Within as Inside, spot}
use Rattle.md_meaning.specs.Step.{steps}
use Rattle.md_meaning.specs.Texts.{split_lines}
use Rattle.md_registry.specs.FlowRule.{existing_from, feeds, inside_by, line_then}
use Rattle.md_registry.specs.LineFlags.{begun_line, ended_on}
use Rattle.proof_frame.specs.LeafName.{LeafName}
use Rattle.md_registry.specs.Registry.{asked_first}
use Rattle.md_registry.specs.States.{FlowStep}
use Rattle.proof_exact.proofs.RowsMet.{HaveBytes}
use Rattle.proof_exact.proofs.TextLines.{have-bytes}
use Rattle.proof_frame.specs.HeldLeaf.{MatchesLeaf, met_by}
use Rattle.proof_frame.specs.Row.{Row}
use Rattle.proof_leaf_laws.proofs.FullLines.{full-lines}
use Rattle.proof_exact.specs.Parts.{EndsLine, IsCut, IsTextCut, nothing_open, open_after, placed_lines}
use Rattle.proof_exact.proofs.TextParts.{text-lines}
use Rattle.proof_rows.specs.TextRows.{text_rows, text_setting}
use Rattle.proof_rows.specs.Valid.{AreOpen, containers_of}
use Rattle.proof_rows.specs.WithoutMdx.{IsWithoutMdx}
use Rattle.proof_rows.proofs.FlowEnds.{Finishes}
use Rattle.proof_rows.proofs.RowFacts.{AreRows, following_line}
use Rattle.proof_rows.proofs.RowLemmas.{fresh-rows}
use Rattle.markdown_blocks.specs.Fed.{AfterLines, fed, flow_begins, line_begins, path_after, place_following}
use Rattle.markdown_blocks.specs.Fed.{rests_from}
use Rattle.markdown_blocks.specs.PartRead.{BeginsPart, WaitsInText, WaitsOutside}
use Rattle.markdown_blocks.proofs.LinesFed.{LineFed, line-fed, line-last, line_behaves, line_stop}
use Rattle.markdown_blocks.proofs.LinesFed.{none-or-ending, text-within}
use Rattle.markdown_blocks.proofs.PartFilled.{EndFilled, filled-cut, last-filled}
use Rattle.markdown_blocks.proofs.ValidLemmas.{rows-size, valid-following}

-- Lines, all but the last.

abbrev AreFront : ℕ → List TextLine → TextLine → List (List ℕ) → Type 0
AreFront column lines last owns =
    (take (length lines) (rests_at column owns) ≡ map whole lines) × (last_line owns ≡ last.bytes)
    × (length owns ≡ suc (length lines))

all-but_last : (column : ℕ) (lines : List TextLine) (last : TextLine) (owns : List (List ℕ)) →
    HaveBytes column (lines ++ last ∷ []) owns → AreFront column lines last owns
all-but_last column [] last [] h = absurd h
all-but_last column [] last (own ∷ []) h = (refl, sym h.0, refl)
all-but_last column [] last (own ∷ next ∷ owns) h = absurd h.2
all-but_last column (line ∷ lines) last [] h = absurd h
all-but_last column (line ∷ lines) last (own ∷ []) h =
    let many = (all-but_last 0 lines last [] h.2).2 in absurd (omega (arith, many))
all-but_last column (line ∷ lines) last (own ∷ next ∷ owns) h =
    let below : AreFront 0 lines last (next ∷ owns) = all-but_last 0 lines last (next ∷ owns) h.2 in
    let first : rest_at column own ≡ whole line =
    sym (ap₂ (λ (c : ℕ) (b : List ℕ). let r : Rest = record { column = c; spaces = 0; bytes = b } in r) h.1 h.0) in (
      ap₂ (λ (r : Rest) (rs : List Rest). r ∷ rs) first below.0,
      below.1,
      ap (λ (n : ℕ). suc n) below.2,
    )

rests-same : (p : Point) (owns : List (List ℕ)) → rests_from p owns ≡ rests_at (p.column - 1) owns
rests-same p [] = refl
rests-same p (own ∷ owns) = refl

-- where there is a byte, there is a line
pub some-lines : (bytes : List ℕ) → EndsLine bytes [] → 0 < length (full_lines_of bytes)
some-lines [] ends = absurd ends
some-lines (b ∷ bytes) ends = go (ends_line b bytes) (full_lines_of bytes)
  where
    go : (x : Bool) (ls : List (List ℕ)) → 0 < length (cond x ((b ∷ []) ∷ ls) (onto_first b ls))
    go true ls = omega arith
    go false [] = omega arith
    go false (l ∷ ls) = omega arith

placed-size : (number index column : ℕ) (fulls : List (List ℕ)) →
    length (placed_lines number index column fulls) ≡ length fulls
placed-size number index column [] = refl
placed-size number index column (full ∷ fulls) =
    ap (λ (n : ℕ). suc n) (placed-size (number + 1) (index + length full) 0 fulls)

-- The lines of a text that ends with a line ending: after them is an empty one.
record EndsEmpty (text : List ℕ) (p : Point) : Type 0 where
  lines : List TextLine
  are : lines ≡ placed_lines p.line p.index (p.column - 1) (full_lines_of (drop p.index text))
  rests : take (length lines) (rests_from p (split_lines (drop p.index text))) ≡ map whole lines
  last : last_line (split_lines (drop p.index text)) ≡ []
  size : length (split_lines (drop p.index text)) ≡ suc (length lines)

ends-empty : (text : List ℕ) (p : Point) → EndsLine (drop p.index text) [] → EndsEmpty text p
ends-empty text p ends = record {
  lines = lines;
  are = refl;
  rests = ap (λ (rs : List Rest). take (length lines) rs) (rests-same p (split_lines bytes)) ∙ front.0;
  last = front.1;
  size = front.2;
}
  where
    bytes : List ℕ
    bytes = drop p.index text

    lines : List TextLine
    lines = placed_lines p.line p.index (p.column - 1) (full_lines_of bytes)

    last : TextLine
    last = line_at (p.line + length (full_lines_of bytes)) (p.index + length bytes) 0 []

    all : lines_from p.line p.index (p.column - 1) (full_lines_of bytes) ≡ lines ++ last ∷ []
    all =
        ap (λ (l : List ℕ). lines_from p.line p.index (p.column - 1) (full_lines_of l)) (sym (append-nil bytes))
        ∙ text-lines p.line p.index (p.column - 1) bytes [] ends

    front : AreFront (p.column - 1) lines last (split_lines bytes)
    front =
        all-but_last (p.column - 1) lines last (split_lines bytes)
        (subst (λ (ls : List TextLine). HaveBytes (p.column - 1) ls (split_lines bytes)) all
        (have-bytes p.line p.index (p.column - 1) bytes (full_lines_of bytes) (full-lines bytes)))

-- there the last row begins
place-end : (options : ParseOptions) (bytes : List ℕ) (cs : List Container) (still : HeldLeaf) (p : Point)
    (lines : List (List ℕ)) (rows : List Row) (n : ℕ) → AreRows options bytes cs still p lines rows →
    last_line lines ≡ [] → suc n ≡ length rows → (place_following p (take n rows)).index ≡ length bytes
place-end options bytes cs still p (line ∷ []) (row ∷ []) zero are last many =
    let none = ap (λ (l : List ℕ). length l) last in omega (arith, are.0.extent, are.3, none)
place-end options bytes cs still p (line ∷ []) (row ∷ []) (suc n) are last many = absurd (omega (arith, many))
place-end options bytes cs still p (line ∷ next ∷ lines) (row ∷ below ∷ rows) zero are last many =
    absurd (omega (arith, many))
place-end options bytes cs still p (line ∷ next ∷ lines) (row ∷ below ∷ rows) (suc n) are last many =
    subst (λ (q : Point). (place_following q (take n (below ∷ rows))).index ≡ length bytes)
    (sym (ap (λ (o : Option Point). elim o [ None ↦ row.end | Some q ↦ q ]) are.3))
    (place-end options bytes (following_line options cs still p line) row.following are.2 (next ∷ lines) (below ∷ rows)
    n are.5 last (omega (arith, many)))
place-end options bytes cs still p lines rows n are last many = absurd are

-- Flow has come to the last line.

-- no leaf is asked first, whether all containers continue or not: none is open, or a text
abbrev AsksNone : HeldLeaf → Type 0
AsksNone leaf = (x : Bool) → asked_first (met_by x leaf) ≡ None

text-asks : (held : OpenText) → AsksNone (held_leaf.Text held)
unfolding asked_first
text-asks held true = refl
text-asks held false = refl

none-asks : AsksNone held_leaf.None
unfolding asked_first
none-asks true = refl
none-asks false = refl

-- flow waits for a line in no container, and no leaf is asked first
record Waits (state : State) (w : World) : Type 0 where
  at : state ≡ line_begins
  frames : w.frames ≡ []
  containers : w.flags.containers ≡ []
  asks : AsksNone w.flags.leaf

in-text : (state : State) (w : World) → WaitsInText state w → Waits state w
in-text state w is = record {
  at = is.at;
  frames = is.frames;
  containers = is.containers;
  asks = subst AsksNone (sym is.leaf) (text-asks is.held);
}

outside : (state : State) (w : World) → WaitsOutside state w → Waits state w
outside state w is = record {
  at = is.at;
  frames = is.frames;
  containers = is.containers;
  asks = subst AsksNone (sym is.leaf) none-asks;
}

-- where nothing is left, what is open ends
line-finishes : (options : ParseOptions) (h : Here) → AsksNone h.flags.leaf →
    Finishes (line_then options line_stop [] h)
unfolding line_then existing_from asked_first blank_at
line-finishes options h none =
    by (met_by (not (nat_lt k.flags.continued (length k.flags.containers))) k.flags.leaf)
    (none (not (nat_lt k.flags.continued (length k.flags.containers))))
  where
    k : Here
    k = record h { flags = ended_on h.flags }

    m : Here
    m = record k { flags = begun_line k.flags }

    go : (o : Option LeafName) → o ≡ None → Finishes (inside_by options line_stop o [] m)
    go None e = refl
    go (Some l) e = cc

    by : (leaf : HeldLeaf) → asked_first leaf ≡ None →
        Finishes (inside_by options line_stop (asked_first leaf) [] m)
    by leaf e = go (asked_first leaf) e

accepts-all : (o : Outcome) → Finishes o → (new : Here) × (o ≡ Accepts new [])
accepts-all (Accepts h rest) f = (h, ap (Accepts h) f)
accepts-all (Refuses s g) f = absurd f
accepts-all Fails f = absurd f

-- a run before the end of a text is one at its end, which has fed as many lines
record AtEnd (s : State) (w : World) (t : State) (v : World) (run : Runs FlowStep false s w t v) : Type 0 where
  same : Runs FlowStep true s w t v
  lines : fed FlowStep true s w t v same ≡ fed FlowStep false s w t v run

abbrev call-at_end : (t : State) (v : World) (t' : State) (v' : World) → Calls FlowStep false t v t' v' →
    Calls FlowStep true t v t' v'
call-at_end t v t' v' c = record {
  name = c.name;
  names = c.names;
  may = inl refl;
  step = c.step;
  fine = c.fine;
  setting = c.setting;
  within = c.within;
}

run-at_end : (s : State) (w : World) (t : State) (v : World) (run : Runs FlowStep false s w t v) → AtEnd s w t v run
run-at_end s w t v Stays = record { same = Stays; lines = refl }
run-at_end s w to new (ThenLeaves t v t' v' run l) =
    let r = run-at_end s w t v run in
    record { same = ThenLeaves t v t' v' r.same l; lines = r.lines }
run-at_end s w to new (ThenCalls t v t' v' run c) =
    let r = run-at_end s w t v run in
    record {
      same = ThenCalls t v t' v' r.same (call-at_end t v t' v' c);
      lines = ap (λ (n : ℕ). feeds c.name (looks v) + n) r.lines;
    }

module _ (options : ParseOptions) (bytes : List ℕ) (p : Point) (built : IsWithoutMdx options)
    (small : length bytes < 2 ^ 61) (begins : BeginsPart bytes p) (ends : EndsLine (drop p.index bytes) []) where
  abbrev all : List Row
  all = text_rows options bytes p

  is : EndsEmpty bytes p
  is = ends-empty bytes p ends

  are : AreRows options bytes [] held_leaf.None p (split_lines (drop p.index bytes)) all
  are = fresh-rows options bytes p built small begins.placed.index begins.whole begins.column

  many : length all ≡ suc (length is.lines)
  many = rows-size options bytes [] held_leaf.None p (split_lines (drop p.index bytes)) all are ∙ is.size

  -- all lines were fed but the last
  all-fed : (end : State) (at : World) (run : Runs FlowStep true line_begins (flow_begins bytes options p) end at) →
      Waits end at → length bytes ≤ at.point.index →
      suc (fed FlowStep true line_begins (flow_begins bytes options p) end at run) ≡ length all
  all-fed end at run waits past =
      let x : Setting = text_setting bytes options p in
      let w = text-within bytes options p small end at run in
      let done = accepts-all (line_then options line_stop [] (here at))
      (line-finishes options (here at) waits.asks) in
      line-last options p all (fed FlowStep true line_begins (flow_begins bytes options p) end at run) w.left w.begin
      w.line done.0
      (sym w.becomes
      ∙ ap (λ (t : State). whole_outcome (line_behaves x) (text_feed x) t at) waits.at
      ∙ ap
      (λ (fs : List Frame).
      resume_all (line_behaves x) (text_feed x) at.events fs
      (line_then options line_stop (text_feed x at.point) (here at)))
      waits.frames
      ∙ ap (λ (cells : List Cell). line_then options line_stop cells (here at)) (feed-none x at.point small past)
      ∙ done.1)

  -- and it waits where the last of these has ended
  stays-there : (N : ℕ) → suc N ≡ length all → 0 < N → (t : State) (v : World)
      (run : Runs FlowStep false line_begins (flow_begins bytes options p) t v) →
      fed FlowStep false line_begins (flow_begins bytes options p) t v run ≡ N → LineFed bytes options p N v
  stays-there N last some t v Stays e = absurd (omega (arith, e))
  stays-there N last some to new (ThenLeaves t v t' v' run l) e =
      let at : LineFed bytes options p N v = stays-there N last some t v run e in
      let bad : [] ≡ l.frame ∷ l.outer = sym at.frames ∙ l.frames in absurd (cc)
  stays-there N last some to new (ThenCalls t v t' v' run c) e =
      go (none-or-ending c.name (looks v)) (λ k. stays-there N last some t v run k)
    where
      go : (feeds c.name (looks v) ≡ 0) ⊎ ((c.name ≡ s.Document document.FlowEnd) × (looks v ≡ Some 10)) →
          (fed FlowStep false line_begins (flow_begins bytes options p) t v run ≡ N → LineFed bytes options p N v) →
          LineFed bytes options p N v'
      go (inl none) before =
          let at : LineFed bytes options p N v = before (omega (arith, e, none)) in
          let here : v.point.index ≡ length bytes =
          ap (λ (q : Point). q.index) at.point
          ∙ place-end options bytes [] held_leaf.None p (split_lines (drop p.index bytes)) all N are is.last last in
          let kept : v.setting ≡ text_setting bytes options p =
          runs-setting FlowStep false line_begins (flow_begins bytes options p) t v run in
          let limit : v.setting.limit ≡ length bytes = ap (λ (x : Setting). x.limit) kept in
          absurd (may c.may (omega (arith, here, limit)))
        where
          may : (false ≡ true) ⊎ (v.point.index < v.setting.limit) → v.setting.limit ≤ v.point.index → ⊥
          may (inl bad) le = cc
          may (inr lt) le = omega (arith, lt, le)
      go (inr one) before =
          let lines : feeds c.name (looks v) ≡ 1 = ap (λ (x : StateName). feeds x (looks v)) one.0
          ∙ ap (λ (x : Option ℕ). feeds (s.Document document.FlowEnd) x) one.1 in
          let r = run-at_end line_begins (flow_begins bytes options p) t v run in
          let same : suc (fed FlowStep true line_begins (flow_begins bytes options p) t v r.same) ≡ N =
          let l = r.lines in omega (arith, e, lines, l) in
          subst (λ (n : ℕ). LineFed bytes options p n v') same
          (line-fed bytes options p small t v t' v' r.same (call-at_end t v t' v' c) lines)

  -- there these lines are behind
  after-lines : (end : State) (at : World)
      (run : Runs FlowStep false line_begins (flow_begins bytes options p) end at) → Waits end at →
      length bytes ≤ at.point.index → AfterLines bytes options p (length is.lines) at
  after-lines end at run waits past =
      valid-following bytes options p (length is.lines) at built small begins.placed.index begins.whole begins.column
      (stays-there (length is.lines) (sym many) some end at run count)
    where
      r : AtEnd line_begins (flow_begins bytes options p) end at run
      r = run-at_end line_begins (flow_begins bytes options p) end at run

      count : fed FlowStep false line_begins (flow_begins bytes options p) end at run ≡ length is.lines
      count =
          let total = all-fed end at r.same waits past in let l = r.lines in omega (arith, total, l, many)

      some : 0 < length is.lines
      some =
          subst (λ (n : ℕ). 0 < n)
          (sym
          (ap (λ (ls : List TextLine). length ls) is.are
          ∙ placed-size p.line p.index (p.column - 1) (full_lines_of (drop p.index bytes))))
          (some-lines (drop p.index bytes) ends)

  -- and this is open
  abbrev path : Path
  path = path_after options bytes p (length is.lines)

  opens : open_after options nothing_open is.lines ≡ path
  opens = ap (steps options nothing_open) (sym is.rests)

  -- So a paragraph is open there,
  pub text-cut : (end : State) (at : World)
      (run : Runs FlowStep false line_begins (flow_begins bytes options p) end at) → WaitsInText end at →
      length bytes ≤ at.point.index →
      IsTextCut options (placed_lines p.line p.index (p.column - 1) (full_lines_of (drop p.index bytes)))
  text-cut end at run waits past =
      subst (IsTextCut options) is.are
      (go path refl (subst (λ (l : List Held). AreOpen l (containers_of path)) waits.containers after.valid.containers)
      (sym waits.leaf ∙ after.valid.leaf))
    where
      after : AfterLines bytes options p (length is.lines) at
      after = after-lines end at run (in-text end at waits) past

      go : (q : Path) → path ≡ q → AreOpen [] (containers_of q) →
          MatchesLeaf (held_leaf.Text waits.held) (spot q).leaf → IsTextCut options is.lines
      go (Inside before c q) e none leaf = absurd none
      go (At i) e none leaf = by i.leaf refl leaf
        where
          by : (l : Leaf) → i.leaf ≡ l → MatchesLeaf (held_leaf.Text waits.held) l → IsTextCut options is.lines
          by (OpenParagraph text) k m = record {
            blocks = i.here;
            text = text;
            open_text =
                opens ∙ e
                ∙ ap (λ (l : Leaf). let j : Innermost = record { here = i.here; leaf = l } in At j) k;
          }
          by NoLeaf k m = absurd (cc)
          by (OpenCode lines) k m = absurd (cc)
          by (OpenFence o lines) k m = absurd (cc)
          by (OpenHtml kind lines) k m = absurd (cc)
          by (OpenTable d rows) k m = absurd (cc)

  -- or nothing is open, and the last block is no item where the last line is not blank.
  pub outside-cut : (end : State) (at : World)
      (run : Runs FlowStep false line_begins (flow_begins bytes options p) end at) → WaitsOutside end at →
      length bytes ≤ at.point.index → EndFilled (drop p.index bytes) →
      IsCut options (placed_lines p.line p.index (p.column - 1) (full_lines_of (drop p.index bytes)))
  outside-cut end at run waits past filled =
      go path refl (subst (λ (l : List Held). AreOpen l (containers_of path)) waits.containers after.valid.containers)
      (sym waits.leaf ∙ after.valid.leaf)
    where
      after : AfterLines bytes options p (length is.lines) at
      after = after-lines end at run (outside end at waits) past

      lines : List TextLine
      lines = placed_lines p.line p.index (p.column - 1) (full_lines_of (drop p.index bytes))

      here-open : open_after options nothing_open lines ≡ path
      here-open = ap (open_after options nothing_open) (sym is.are) ∙ opens

      go : (q : Path) → path ≡ q → AreOpen [] (containers_of q) → MatchesLeaf held_leaf.None (spot q).leaf →
          IsCut options lines
      go (Inside before c q) e none leaf = absurd none
      go (At i) e none leaf = by i.leaf refl leaf
        where
          by : (l : Leaf) → i.leaf ≡ l → MatchesLeaf held_leaf.None l → IsCut options lines
          by NoLeaf k m =
              filled-cut options lines
              (last-filled p.line p.index (p.column - 1) (drop p.index bytes) filled)
              (ap containers (here-open ∙ e)) (ap (λ (q : Path). (spot q).leaf) (here-open ∙ e) ∙ k)
          by (OpenParagraph text) k m = absurd (cc)
          by (OpenCode lines) k m = absurd (cc)
          by (OpenFence o lines) k m = absurd (cc)
          by (OpenHtml kind lines) k m = absurd (cc)
          by (OpenTable d rows) k m = absurd (cc)
