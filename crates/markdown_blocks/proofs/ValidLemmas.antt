-- Whenever flow has fed a line of a text, the flags that it holds and what was read represent what the lines so far
-- become.
use Rattle.md_engine.specs.declared.tokenizer.held_leaf.HeldLeaf.{HeldLeaf}
use Rattle.md_engine.specs.declared.tokenizer.held_leaf.HeldLeaf.TheVariants as held_leaf
use Rattle.std.proofs.Common.{◌≡◌, ℕ, zero, suc, ◌^◌, ◌<◌, ◌≤◌, true, List, [], ◌∷◌, length, take, drop}
use Rattle.std.proofs.Common.{refl, ap, sym, ◌∙◌, subst, ◌⊎◌, inl, inr, Bool}
use Rattle.std.specs.Prelude.{nat_lt, not}
use Rattle.md_engine.specs.declared.configuration.ParseOptions.{ParseOptions}
use Rattle.md_engine.specs.declared.event.Point.{Point}
use Rattle.md_engine.specs.declared.state.Name.{Name as StateName}
use Rattle.md_engine.specs.declared.state.Name.TheVariants as s
use Rattle.md_engine.specs.declared.state.content.State.TheVariants as content
use Rattle.md_engine.specs.declared.state.document.State.TheVariants as document
use Rattle.md_engine.specs.declared.state.flow.State.TheVariants as flow
use Rattle.md_engine.specs.declared.state.State.{State}
use Rattle.md_engine.specs.declared.state.State.TheVariants.{Next, Ok, Retry}
use Rattle.md_engine.specs.declared.tokenizer.container.name.ContainerKind.{ContainerKind}
use Rattle.md_engine.specs.Meaning.{Follows}
use Rattle.md_engine.specs.Run.{Calls, Runs, plain, reading as seeing}
use Rattle.md_engine.specs.Scheme.{valid}
use Rattle.md_engine.specs.Sees.{Sees}
use Rattle.md_engine.specs.TextFeed.{text_feed}
use Rattle.md_engine.specs.World.{Flags, Setting, World}
use Rattle.md_engine.proofs.Keeps.{runs-setting}
use Rattle.md_engine.proofs.StepOf.{sees}
use Rattle.std.proofs.lemmas.List.{length-map}
use Rattle.md_meaning.specs.Preamble.{rest_at}
use Rattle.md_meaning.specs.Rest.{Rest}
use Rattle.md_events.specs.Events.Spelled.{Reading, read, unread}
use Rattle.md_events.specs.Spaces.{IsRest}
use Rattle.md_flow.specs.LineRule.{IsMet, IsMetFirst, first_state, further_state, opener_state}
use Rattle.md_meaning.specs.State.{At, Container, Leaf, NoLeaf, Path, spot}
use Rattle.md_meaning.specs.Step.{spot_of, step, steps}
use Rattle.md_meaning.specs.Texts.{split_lines}
use Rattle.md_meaning.specs.Tree.{End}
use Rattle.proof_frame.specs.Change.{open_following}
use Rattle.proof_frame.specs.Closed.{close_containers}
use Rattle.proof_frame.specs.HeldLeaf.{kind_of_leaf, met_by}
use Rattle.proof_frame.specs.LeafName.{LeafName}
use Rattle.markdown_blocks.specs.Fed.{AfterLines, FlowRan, IsAtRest, IsFrontMet, IsFurtherMet, IsLeafMet, IsLineMet}
use Rattle.markdown_blocks.specs.Fed.{IsOpenerMet}
use Rattle.markdown_blocks.specs.Fed.{before_opener, fed, flow_begins, last_leaves, line_begins, path_after, rests_from}
use Rattle.markdown_blocks.specs.Fed.{tries_leaf}
use Rattle.proof_rows.specs.Fronted.{rest_from}
use Rattle.proof_rows.specs.WithoutMdx.{IsWithoutMdx}
use Rattle.proof_frame.specs.Row.{Row}
use Rattle.proof_rows.specs.Rows.{groups, groups_events}
use Rattle.proof_rows.specs.Valid.{AreOpen, IsPlain, Represents, containers_of, still_of, reading}
use Rattle.md_registry.specs.OpenSpan.{IsBuiltLeaf}
use Rattle.md_registry.specs.States.{FlowStep, flow_table_scheme}
use Rattle.proof_rows.specs.TextRows.{text_rows, text_setting}
use Rattle.markdown_blocks.proofs.ContainersTried.{further-tried, opener-rest, opener-tried}
use Rattle.markdown_blocks.proofs.FirstCalls.{IsCalledAt, placed-called, placed-on}
use Rattle.markdown_blocks.proofs.FrontMet.{IsStill, asked-front, first-rest, further-rest, opens-rest, tried-front}
use Rattle.markdown_blocks.proofs.LeafTried.{HasMet, IsAskedAt, IsTriedAt, asked-leaf, flow-rest, met-before}
use Rattle.markdown_blocks.proofs.LeafMet.{leaf-tried, met-there, tries-flow}
use Rattle.markdown_blocks.proofs.LineMet.{Meets, OnLine, between-met, run-on, still_after}
use Rattle.markdown_blocks.proofs.LinesFed.{LineFed, leaf_after, line-fed, lines-fed, open_after, text-follows_it}
use Rattle.markdown_blocks.proofs.LinesFed.{text-within}
use Rattle.proof_rows.proofs.StepAfter.{containers-step, plain-step}
use Rattle.markdown_blocks.proofs.LastLine.{recorded-some}
use Rattle.proof_rows.proofs.RowFacts as f
use Rattle.proof_rows.proofs.RowLemmas.{fresh-rows}
use Rattle.markdown_blocks.proofs.SpelledLines.{still-line}
use Rattle.markdown_blocks.proofs.SpelledRows.{lines-read, rests-following, rows-below}

-- Lines, one after another.

-- a path is open as these lines leave it, where these containers were open before them, and a text or none
abbrev IsLeft : List Container → HeldLeaf → Path → List Row → Type 0
IsLeft cs still p rows = (containers_of p ≡ open_after cs rows) × (still_of p ≡ leaf_after still rows)

step-left : (options : ParseOptions) (bytes : List ℕ) (a : Path) (p : Point) (line : List ℕ) (row : Row) →
    IsWithoutMdx options → IsPlain a → f.IsLine options bytes (containers_of a) (still_of a) p line row →
    IsLeft (containers_of a) (still_of a) (step options a (rest_from p line)) (row ∷ [])
step-left options bytes a p line row built plain is =
    let r : Rest = rest_from p line in (
      containers-step options a r built plain ∙ ap open_following (sym is.change),
      still-line options bytes a p line row built plain is,
    )

steps-left : (options : ParseOptions) (bytes : List ℕ) (a : Path) (p : Point) (n : ℕ) (lines : List (List ℕ))
    (rows : List Row) →
    IsWithoutMdx options → IsPlain a → f.AreRows options bytes (containers_of a) (still_of a) p lines rows →
    IsLeft (containers_of a) (still_of a) (steps options a (take n (rests_from p lines))) (take n rows)
steps-left options bytes a p zero lines rows built plain are = (refl, refl)
steps-left options bytes a p (suc zero) (line ∷ []) (row ∷ []) built plain are =
    step-left options bytes a p line row built plain are.0
steps-left options bytes a p (suc (suc n)) (line ∷ []) (row ∷ []) built plain are =
    step-left options bytes a p line row built plain are.0
steps-left options bytes a p (suc n) (line ∷ next ∷ lines) (row ∷ below ∷ rows) built plain are =
    let r : Rest = rest_from p line in
    let b : Path = step options a r in
    let q : Point = are.2 in
    let first = step-left options bytes a p line row built plain are.0 in
    let more = steps-left options bytes b q n (next ∷ lines) (below ∷ rows) built (plain-step options a r built plain)
    (rows-below options bytes a p line next lines row below rows built plain are) in
    let to : List Rest → Path = λ rests. steps options b (take n rests) in (
      sym (ap (λ (rests : List Rest). containers_of (to rests)) (rests-following q (next ∷ lines) are.4.column))
          ∙ more.0
          ∙ ap (λ (cs : List Container). open_after cs (take n (below ∷ rows))) first.0,
      sym (ap (λ (rests : List Rest). still_of (to rests)) (rests-following q (next ∷ lines) are.4.column)) ∙ more.1
          ∙ ap (λ (x : HeldLeaf). leaf_after x (take n (below ∷ rows))) first.1,
    )
steps-left options bytes a p (suc n) lines rows built plain are = absurd are

-- as many rows as lines
pub rows-size : (options : ParseOptions) (bytes : List ℕ) (cs : List Container) (still : HeldLeaf) (p : Point)
    (lines : List (List ℕ)) (rows : List Row) →
    f.AreRows options bytes cs still p lines rows → length rows ≡ length lines
rows-size options bytes cs still p (line ∷ []) (row ∷ []) are = refl
rows-size options bytes cs still p (line ∷ next ∷ lines) (row ∷ below ∷ rows) are =
    ap (λ (n : ℕ). suc n)
    (rows-size options bytes (f.following_line options cs still p line) row.following are.2 (next ∷ lines)
    (below ∷ rows)
    are.5)
rows-size options bytes cs still p lines rows are = absurd are

rests-size : (p : Point) (lines : List (List ℕ)) → length (rests_from p lines) ≡ length lines
rests-size p [] = refl
rests-size p (line ∷ lines) = ap (λ (n : ℕ). suc n) (length-map lines (rest_at 0))

-- What was read of so many lines of a text, but for the containers that end after them, represents what they become:
-- where the flags hold the containers of this path, and whether text is open.
pub flags-are_valid : (options : ParseOptions) (bytes : List ℕ) (p : Point) (n : ℕ) (lines : List (List ℕ))
    (rows : List Row) (g : Flags) →
    IsWithoutMdx options → f.AreRows options bytes [] held_leaf.None p lines rows → n < length rows →
    let path : Path = steps options (At (spot_of End)) (take n (rests_from p lines)) in
    AreOpen g.containers (containers_of path) → g.leaf ≡ still_of path →
    (r : Reading) × Represents options g r path ×
    (read bytes unread (groups_events options bytes (groups (take n rows))) ≡
    close_containers (length (last_leaves (take n rows))) r)
flags-are_valid options bytes p n lines rows g built are further containers still =
    let path : Path = steps options (At (spot_of End)) (take n (rests_from p lines)) in (
      reading options path,
      record { containers = containers; leaf = still; reading = refl },
      lines-read options bytes p n lines rows built are
          ∙ ap (λ (x : Path). close_containers (length (last_leaves (take n rows))) (reading options x))
          (recorded-some options (At (spot_of End)) n (rests_from p lines)
          (subst (λ (size : ℕ). n < size)
          (rows-size options bytes [] held_leaf.None p lines rows are ∙ sym (rests-size p lines)) further)),
    )

-- Whenever a line of a text has been fed.

pub valid-following : (bytes : List ℕ) (options : ParseOptions) (p : Point) (n : ℕ) (w : World) → IsWithoutMdx options →
    length bytes < 2 ^ 61 → p.index ≤ length bytes → p.vs ≡ 0 → 1 ≤ p.column → LineFed bytes options p n w →
    AfterLines bytes options p n w
valid-following bytes options p n w built small index whole column is =
    let lines : List (List ℕ) = split_lines (drop p.index bytes) in
    let rows : List Row = text_rows options bytes p in
    let are : f.AreRows options bytes [] held_leaf.None p lines rows = fresh-rows options bytes p built small index
    whole column in
    let left = steps-left options bytes (At (spot_of End)) p n lines rows built tt are in
    let all = flags-are_valid options bytes p n lines rows w.flags built are is.further
    (subst (AreOpen w.flags.containers) (sym left.0) is.containers) (is.leaf ∙ sym left.1) in
    record {
      frames = is.frames;
      further = is.further;
      point = is.point;
      events = is.events;
      reading = all.0;
      reads = all.2;
      valid = all.1;
    }

-- what may be open after lines
plain-steps : (options : ParseOptions) (a : Path) (rs : List Rest) → IsWithoutMdx options → IsPlain a →
    IsPlain (steps options a rs)
plain-steps options a [] built plain = plain
plain-steps options a (r ∷ rs) built plain =
    plain-steps options (step options a r) rs built (plain-step options a r built plain)

-- The leaf that is open after so many lines is held so.
is-still : (bytes : List ℕ) (options : ParseOptions) (p : Point) (n : ℕ) → length bytes < 2 ^ 61 →
    IsWithoutMdx options → p.index ≤ length bytes → p.vs ≡ 0 → 1 ≤ p.column → IsStill options bytes p n
is-still bytes options p n small built index whole column =
    let lines : List (List ℕ) = split_lines (drop p.index bytes) in
    let rows : List Row = text_rows options bytes p in
    let are : f.AreRows options bytes [] held_leaf.None p lines rows = fresh-rows options bytes p built small index whole
    column in
    record {
      same = (steps-left options bytes (At (spot_of End)) p n lines rows built tt are).1;
      built = plain-steps options (At (spot_of End)) (take n (rests_from p lines)) built tt;
    }

-- What is known of a call in a run over a text.
module _ (bytes : List ℕ) (options : ParseOptions) (p : Point) (small : length bytes < 2 ^ 61) (t : State) (v : World)
    (t' : State) (v' : World) (before : Runs FlowStep true line_begins (flow_begins bytes options p) t v)
    (call : Calls FlowStep true t v t' v') where
  abbrev count : ℕ
  count = fed FlowStep true line_begins (flow_begins bytes options p) t v before

  abbrev under : Setting
  under = text_setting bytes options p

  on-line : OnLine under (text_feed under) (still_after options bytes p count) t v
  on-line = run-on options bytes p small (text_feed under) (text-follows_it bytes options p small) t v before

  named : (name : StateName) → call.name ≡ name → plain t ≡ Next name
  named name e = call.names ∙ ap (λ (m : StateName). Next m) e

  valid-at : (name : StateName) → call.name ≡ name → valid flow_table_scheme v (Next name)
  valid-at name e =
      let Q : State → Type 0 = λ m. valid flow_table_scheme v m in
      subst Q (named name e) (text-within bytes options p small t v before).at

  kept : v.setting ≡ under
  kept = runs-setting FlowStep true line_begins (flow_begins bytes options p) t v before

  seen : Sees (text_feed under) (seeing v)
  seen =
      sees (text_feed under) v true
      (subst (λ (x : Setting). Follows (text_feed under) x true) (sym kept) (text-follows_it bytes options p small))
      call.may

  is-whole : v.setting.limit ≡ length v.setting.bytes
  is-whole = ap (λ (x : Setting). x.limit) kept ∙ sym (ap (λ (x : Setting). length x.bytes) kept)

  -- the tokenizer is at rest after it, where its scratch is as before
  at-rest : IsRest v.scratch → v'.scratch ≡ v.scratch → IsAtRest v'
  at-rest rest same = record {
    rest = subst IsRest (sym same) rest;
    whole = subst (λ (x : Setting). x.limit ≡ length x.bytes) (sym call.setting) is-whole;
  }

  -- where the state after the containers of a line is called
  lines-met : IsWithoutMdx options → p.index ≤ length bytes → p.vs ≡ 0 → 1 ≤ p.column →
      call.name ≡ s.Document document.ContainersAfter → IsLineMet bytes options p count v
  lines-met built index whole column name =
      go
      (between-met under (text_feed under) (still_after options bytes p count) t v on-line document.ContainersAfter refl
      (named _ name))
    where
      at : valid flow_table_scheme v (Next (s.Document document.ContainersAfter))
      at = valid-at (s.Document document.ContainersAfter) name

      is : IsStill options bytes p count
      is = is-still bytes options p count small built index whole column

      go : Meets v.flags (still_after options bytes p count) → IsLineMet bytes options p count v
      go (inl leaf, blank) = record {
        rest = at.0.0;
        whole = is-whole;
        all = not (nat_lt v.flags.continued (length v.flags.containers));
        open_leaf = (spot (path_after options bytes p count)).leaf;
        is = inl refl;
        built = is.built;
        holds = λ r. (leaf ∙ sym is.same, refl, blank);
      }
      go (inr none, blank) = record {
        rest = at.0.0;
        whole = is-whole;
        all = not (nat_lt v.flags.continued (length v.flags.containers));
        open_leaf = NoLeaf;
        is = inr refl;
        built = tt;
        holds = λ r. (none, refl, blank);
      }

  is-it : IsWithoutMdx options → p.index ≤ length bytes → p.vs ≡ 0 → 1 ≤ p.column → IsStill options bytes p count
  is-it built index whole column = is-still bytes options p count small built index whole column

  -- where what the line meets is known, the first state of a leaf may be called
  leaf-at : IsStill options bytes p count → (l : LeafName) (w : World) → IsAtRest w →
      HasMet w.flags.leaf (still_after options bytes p count) → IsAskedAt (first_state l) w.flags.leaf →
      IsLeafMet bytes options p count l w
  leaf-at is l w ready = go
    where
      by : (all : Bool) (open_leaf : Leaf) →
          (open_leaf ≡ (spot (path_after options bytes p count)).leaf) ⊎ (open_leaf ≡ NoLeaf) → IsBuiltLeaf open_leaf →
          w.flags.leaf ≡ met_by all (kind_of_leaf open_leaf) → IsAskedAt (first_state l) w.flags.leaf →
          IsLeafMet bytes options p count l w
      by all open_leaf which may holds at = record {
        ready = ready;
        all = all;
        open_leaf = open_leaf;
        is = which;
        built = may;
        holds = holds;
        asked = asked-leaf l all open_leaf (subst (IsAskedAt (first_state l)) holds at);
      }

      go : HasMet w.flags.leaf (still_after options bytes p count) → IsAskedAt (first_state l) w.flags.leaf →
          IsLeafMet bytes options p count l w
      go (inl (all, met)) at =
          by all (spot (path_after options bytes p count)).leaf (inl refl) is.built (met ∙ ap (met_by all) (sym is.same))
          at
      go (inr none) at = by true NoLeaf (inr refl) tt none at

  -- where a leaf is tried
  leaves-met : IsWithoutMdx options → p.index ≤ length bytes → p.vs ≡ 0 → 1 ≤ p.column →
      tries_leaf call.name ≡ true → (l : LeafName) → t' ≡ Retry (first_state l) →
      IsLeafMet bytes options p count l v'
  leaves-met built index whole column tries l to =
      leaf-at (is-it built index whole column) l v'
      (at-rest (flow-rest call.name v (tries-flow call.name tries) (valid-at call.name refl)) tried.scratch) tried.met
      tried.asked
    where
      tried : IsTriedAt l (seeing v) v' (still_after options bytes p count)
      tried = leaf-tried under (text_feed under) (still_after options bytes p count) t v t' v' on-line seen call tries l to

  -- where a container is tried
  openers-met : (k : ContainerKind) → call.name ≡ before_opener k → t' ≡ Retry (opener_state k) → IsOpenerMet k v'
  openers-met k name to =
      let tried = opener-tried k t v t' v' call name to in
      record {
        ready = at-rest (opener-rest k v (valid-at (before_opener k) name)) tried.scratch;
        asked = tried.asked;
        column = tried.column;
      }

  -- and where an open one is asked
  further-met : call.name ≡ s.Document document.ContainerExistingBefore → (c : Container) →
      t' ≡ Retry (further_state c) → IsFurtherMet c v'
  further-met name c to =
      let tried = further-tried under (text_feed under) (still_after options bytes p count) t v t' v' on-line call name c
      to in
      let at : valid flow_table_scheme v (Next (s.Document document.ContainerExistingBefore)) = valid-at
      (s.Document document.ContainerExistingBefore) name in
      record {
        ready = at-rest at.0.0 tried.scratch;
        container = tried.container;
        state = tried.state;
        held = tried.held;
        column = tried.column;
      }

  -- where a first state is called
  is-called : IsCalledAt (still_after options bytes p count) call.name v.flags v.point
  is-called =
      placed-called (still_after options bytes p count) t v
      (placed-on options bytes p small (text_feed under) (text-follows_it bytes options p small) t v before) call.name
      call.names

  resting : IsRest v.scratch → IsAtRest v
  resting rest = record { rest = rest; whole = is-whole }

  leaves-called : IsWithoutMdx options → p.index ≤ length bytes → p.vs ≡ 0 → 1 ≤ p.column → (l : LeafName) →
      call.name ≡ first_state l → IsLeafMet bytes options p count l v
  leaves-called built index whole column l name =
      let known = is-called in let at = known.leaf l name in
      leaf-at (is-it built index whole column) l v (resting (first-rest l v (valid-at (first_state l) name))) at.0
      (subst (λ (m : StateName). IsAskedAt m v.flags.leaf) name at.1)

  openers-called : (k : ContainerKind) → call.name ≡ opener_state k → IsOpenerMet k v
  openers-called k name =
      let known = is-called in let at = known.opener k name in
      record {
        ready = resting (opens-rest k v (valid-at (opener_state k) name));
        asked = at.asked;
        column = at.column;
      }

  further-called : (c : Container) → call.name ≡ further_state c → IsFurtherMet c v
  further-called c name =
      let known = is-called in let at = known.further c name in
      record {
        ready = resting (further-rest c v (valid-at (further_state c) name));
        container = at.container;
        state = at.state;
        held = at.held;
        column = at.column;
      }

  -- where a leaf is asked first
  asked-met : IsWithoutMdx options → p.index ≤ length bytes → p.vs ≡ 0 → 1 ≤ p.column →
      call.name ≡ s.Document document.FlowInside → IsFrontMet bytes options p count v (IsMetFirst v)
  asked-met built index whole column name =
      let at = met-before under.options (text_feed under v.point) (s.Document document.FlowInside) v.flags
      (still_after options bytes p count) refl
      (met-there under (text_feed under) (still_after options bytes p count) t v on-line
      (s.Document document.FlowInside) (named (s.Document document.FlowInside) name) refl) in
      asked-front bytes options p count (is-it built index whole column) v
      (resting (flow-rest (s.Document document.FlowInside) v refl (valid-at (s.Document document.FlowInside) name))) at.1
      at.0

  -- and where all are tried
  tried-met : IsWithoutMdx options → p.index ≤ length bytes → p.vs ≡ 0 → 1 ≤ p.column → call.name ≡ s.Flow flow.Start →
      IsFrontMet bytes options p count v (IsMet v)
  tried-met built index whole column name =
      let at = met-before under.options (text_feed under v.point) (s.Flow flow.Start) v.flags
      (still_after options bytes p count) refl
      (met-there under (text_feed under) (still_after options bytes p count) t v on-line (s.Flow flow.Start)
      (named (s.Flow flow.Start) name) refl) in
      tried-front bytes options p count (is-it built index whole column) v
      (resting (flow-rest (s.Flow flow.Start) v refl (valid-at (s.Flow flow.Start) name)))
      (ap (λ (x : Setting). x.options) kept) at.0 at.1

  -- where the first state of a line of text is called
  texts-begin : call.name ≡ s.Content content.ChunkStart → IsRest v.scratch × (v.setting.limit ≡ length v.setting.bytes)
  texts-begin name =
      let at : valid flow_table_scheme v (Next (s.Content content.ChunkStart)) = valid-at
      (s.Content content.ChunkStart) name in
      (at.0, is-whole)

-- where all of it was read
pub flow-ran : (bytes : List ℕ) (options : ParseOptions) (p : Point) (end : State) (at : World) →
    length bytes < 2 ^ 61 →
    Runs FlowStep true line_begins (flow_begins bytes options p) end at → end ≡ Ok → at.frames ≡ [] →
    text_feed (text_setting bytes options p) at.point ≡ [] → FlowRan bytes options p end at
flow-ran bytes options p end at small run ok none done = record {
  run = run;
  lines = lines-fed bytes options p small end at run ok none done;
  valid =
      λ built index whole column t v t' v' before call feeds. valid-following bytes options p
      (suc (fed FlowStep true line_begins (flow_begins bytes options p) t v before)) v' built small index whole column
      (line-fed bytes options p small t v t' v' before call feeds);
  texts_begin = λ t v t' v' before call name. texts-begin bytes options p small t v t' v' before call name;
  lines_met =
      λ built index whole column t v t' v' before call name. lines-met bytes options p small t v t' v' before call built
      index whole column name;
  leaves_met =
      λ built index whole column t v t' v' before call tries l to. leaves-met bytes options p small t v t' v' before call
      built index whole column tries l to;
  openers_met =
      λ t v t' v' before call k name to. openers-met bytes options p small t v t' v' before call k name to;
  further_met =
      λ t v t' v' before call name c to. further-met bytes options p small t v t' v' before call name c to;
  leaves_called =
      λ built index whole column t v t' v' before call l name. leaves-called bytes options p small t v t' v' before call
      built index whole column l name;
  openers_called =
      λ t v t' v' before call k name. openers-called bytes options p small t v t' v' before call k name;
  further_called =
      λ t v t' v' before call c name. further-called bytes options p small t v t' v' before call c name;
  asked_met =
      λ built index whole column t v t' v' before call name. asked-met bytes options p small t v t' v' before call built
      index whole column name;
  tried_met =
      λ built index whole column t v t' v' before call name. tried-met bytes options p small t v t' v' before call built
      index whole column name;
}
