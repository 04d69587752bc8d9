-- All calls of the first states of leaves and containers, and of the state before a further prefix: what is known of the
-- tokenizer where one is called.
--
-- Flow and the document try them, an item tests for a thematic break, and a quote that opens begins with the state before
-- a further prefix; no other state leads to one, and no attempt continues at one (`ConstructCalls`).
use Rattle.std.proofs.Common.{◌≡◌, ◌⊎◌, inl, inr, ℕ, ◌+◌, ◌^◌, ◌<◌, Bool, true, false, cond, List, [], ◌∷◌, length}
use Rattle.std.proofs.Common.{Option, Some, None, refl, sym, ap, ◌∙◌, subst, subst₂, arith}
use Rattle.std.specs.Prelude.{◌==◌, ◌&&◌, ◌||◌, not}
use Rattle.md_engine.specs.declared.configuration.ParseOptions.{ParseOptions}
use Rattle.md_engine.specs.declared.event.Name.TheVariants as n
use Rattle.md_engine.specs.declared.event.Point.{Point}
use Rattle.md_engine.specs.declared.state.Name.{Name as StateName}
use Rattle.md_engine.specs.declared.state.Name.TheVariants as s
use Rattle.md_engine.specs.declared.state.State.{State}
use Rattle.md_engine.specs.declared.state.State.TheVariants.{Error, Ok, Nok, Next, Retry}
use Rattle.md_engine.specs.declared.state.block_quote.State.TheVariants as quote
use Rattle.md_engine.specs.declared.state.bom.State.TheVariants as bom
use Rattle.md_engine.specs.declared.state.document.State.{State as DocumentState}
use Rattle.md_engine.specs.declared.state.document.State.TheVariants as document
use Rattle.md_engine.specs.declared.state.frontmatter.State.TheVariants as front
use Rattle.md_engine.specs.declared.state.list_item.State.TheVariants as item
use Rattle.md_engine.specs.declared.state.space_or_tab.State.{State as WhiteState}
use Rattle.md_engine.specs.declared.state.space_or_tab.State.TheVariants as white
use Rattle.md_engine.specs.declared.state.thematic_break.State.TheVariants as thematic_break
use Rattle.md_engine.specs.declared.tokenizer.Frame.{Frame}
use Rattle.md_engine.specs.declared.tokenizer.container.Container.{Container as Held}
use Rattle.md_engine.specs.declared.tokenizer.container.name.ContainerKind.{ContainerKind}
use Rattle.md_engine.specs.declared.tokenizer.container.name.ContainerKind.TheVariants as kind
use Rattle.md_engine.specs.declared.tokenizer.held_leaf.HeldLeaf.{HeldLeaf}
use Rattle.md_engine.specs.declared.tokenizer.held_leaf.HeldLeaf.TheVariants as held_leaf
use Rattle.md_engine.specs.Meaning.{Cell, Feed, Follows}
use Rattle.md_engine.specs.Run.{Calls, IsEnd, Leaves, Runs, leads_back, next_of, plain, reading}
use Rattle.md_engine.specs.Run.Runs.{Stays, ThenCalls, ThenLeaves}
use Rattle.md_engine.specs.Sees.{Sees}
use Rattle.md_engine.specs.World.{Flags, Setting, World, closed, container_of, looks}
use Rattle.md_engine.proofs.Keeps.{runs-setting}
use Rattle.md_engine.proofs.StepOf.{sees}
use Rattle.md_containers.specs.Item as ItemStates
use Rattle.md_containers.specs.Quote as QuoteStates
use Rattle.md_events.specs.Look.{looks_after, may_with}
use Rattle.md_events.specs.Spaces as WhiteStates
use Rattle.md_events.specs.Spaces.{ends_line, sees_white}
use Rattle.md_events.specs.Transition.{Transition, entered}
use Rattle.md_flow.specs.LineRule.{IsHeldAs, first_state, further_state, opener_state}
use Rattle.md_leaves.specs.LeafStart as LeafStarts
use Rattle.md_containers.specs.Interrupts.{interrupts}
use Rattle.md_meaning.specs.Containers.{is_bullet, is_digit}
use Rattle.md_meaning.specs.State.{Container, InFootnote, InItem, InQuote}
use Rattle.md_registry.specs.Document.{document_own_transition}
use Rattle.md_registry.specs.Flow.{existing_before_code, flow_end_code, following_all, leaf_front, trial_code}
use Rattle.md_registry.specs.FlowRule.{feeds}
use Rattle.md_registry.specs.LineFlags.{asking, ended_on, kept_containers, next_container}
use Rattle.md_registry.specs.Registry.{bars_containers, continues_with, leaf, may_continue, opener_front, openers}
use Rattle.md_registry.specs.States.{FlowStep, flow_transition}
use Rattle.proof_frame.specs.LeafName.{CodeIndented, LeafName}
use Rattle.proof_rows.specs.TextRows.{text_setting}
use Rattle.markdown_blocks.specs.Fed.{before_opener, fed, flow_begins, line_begins, tries_leaf}
use Rattle.markdown_blocks.proofs.Attempts.{left-outer}
use Rattle.markdown_blocks.proofs.ConstructCalls.{free-leads, is_plain}
use Rattle.markdown_blocks.proofs.ContainersTried.{further-tried, opener-tried}
use Rattle.markdown_blocks.proofs.LeafCalls.{Begins, IsFreeFrame, LeadsFree, StaysFree, either, is_free, tries, turns}
use Rattle.markdown_blocks.proofs.LeafTried.{AtBlank, AtLeaf, AtText, FlowLeads, Follows_on, HasMet, IsAskedAt, IsFlow}
use Rattle.markdown_blocks.proofs.LeafTried.{Tried, Tries_leaf, frame_of, is_flow}
use Rattle.markdown_blocks.proofs.LeafMet.{flow-led}
use Rattle.markdown_blocks.proofs.LineMet.{Meets, OnLine, between-met, is_between, left-flags, next-line, run-on}
use Rattle.markdown_blocks.proofs.LineMet.{still_after}
use Rattle.markdown_blocks.proofs.LinesFed.{line-fed, none-or-ending}

-- What is known where such a state is called.

-- an open container, or one of its kind, is asked for from this column
pub record IsFurtherAt (c : Container) (g : Flags) (p : Point) : Type 0 where
  pub container : Container
  pub state : further_state container ≡ further_state c
  pub held : IsHeldAs container g.asked
  pub column : g.asked_column ≡ p.column

pub record IsOpenerAt (still : HeldLeaf) (k : ContainerKind) (g : Flags) (p : Point) : Type 0 where
  pub asked : g.asked ≡ container_of k
  pub column : g.asked_column ≡ p.column
  pub met : HasMet g.leaf still

-- by the state; an item tests for a break at the state before its marker
pub record IsCalledAt (still : HeldLeaf) (name : StateName) (g : Flags) (p : Point) : Type 0 where
  pub leaf : (l : LeafName) → name ≡ first_state l → HasMet g.leaf still × IsAskedAt name g.leaf
  pub opener : (k : ContainerKind) → name ≡ opener_state k → IsOpenerAt still k g p
  pub further : (c : Container) → name ≡ further_state c → IsFurtherAt c g p
  pub before : name ≡ s.ListItem item.Before → HasMet g.leaf still

abbrev pub IsCalled : HeldLeaf → State → World → Type 0
IsCalled still t v = (name : StateName) → plain t ≡ Next name → IsCalledAt still name v.flags v.point

-- None of them is any other state.

leaf-taken : (l : LeafName) → is_free (first_state l) ≡ false
leaf-taken CodeIndented = refl
leaf-taken _ = refl

opener-taken : (k : ContainerKind) → is_free (opener_state k) ≡ false
opener-taken kind.BlockQuote = refl
opener-taken kind.ListItem = refl
opener-taken kind.GfmFootnoteDefinition = refl

further-taken : (c : Container) → is_free (further_state c) ≡ false
further-taken (InQuote alert) = refl
further-taken (InItem digits marker width blank) = refl
further-taken (InFootnote label) = refl

taken-free : (m name : StateName) → is_free m ≡ false → name ≡ m → is_free name ≡ true → ⊥
taken-free m name taken same free = let bad : false ≡ true = sym taken ∙ ap is_free (sym same) ∙ free in cc

free-called : (still : HeldLeaf) (name : StateName) (g : Flags) (p : Point) → is_free name ≡ true →
    IsCalledAt still name g p
free-called still name g p free = record {
  leaf = λ l e. absurd (taken-free (first_state l) name (leaf-taken l) e free);
  opener = λ k e. absurd (taken-free (opener_state k) name (opener-taken k) e free);
  further = λ c e. absurd (taken-free (further_state c) name (further-taken c) e free);
  before = λ e. absurd (taken-free (s.ListItem item.Before) name refl e free);
}

named-called : (still : HeldLeaf) (m : StateName) (v : World) → IsCalledAt still m v.flags v.point →
    IsCalled still (Retry m) v
named-called still m v is name e =
    let same : m ≡ name = cc in subst (λ (x : StateName). IsCalledAt still x v.flags v.point) same is

stays-called : (still : HeldLeaf) (t : State) (v : World) → StaysFree t → IsCalled still t v
stays-called still Ok v free name e = cc
stays-called still Nok v free name e = cc
stays-called still Error v free name e = cc
stays-called still (Next m) v free name e =
    let same : m ≡ name = cc in
    subst (λ (x : StateName). IsCalledAt still x v.flags v.point) same (free-called still m v.flags v.point free)
stays-called still (Retry m) v free name e =
    let same : m ≡ name = cc in
    subst (λ (x : StateName). IsCalledAt still x v.flags v.point) same (free-called still m v.flags v.point free)

-- Which are of containers, and which of these open one.
abbrev is_container : StateName → Bool
is_container (s.BlockQuote state) = true
is_container (s.GfmFootnoteDefinition state) = true
is_container (s.ListItem state) = true
is_container name = false

leaf-other : (l : LeafName) → is_container (first_state l) ≡ false
leaf-other CodeIndented = refl
leaf-other _ = refl

tried-other : (l : LeafName) → is_container (leaf l).start ≡ false
tried-other CodeIndented = refl
tried-other _ = refl

opener-container : (k : ContainerKind) → is_container (opener_state k) ≡ true
opener-container kind.BlockQuote = refl
opener-container kind.ListItem = refl
opener-container kind.GfmFootnoteDefinition = refl

further-container : (c : Container) → is_container (further_state c) ≡ true
further-container (InQuote alert) = refl
further-container (InItem digits marker width blank) = refl
further-container (InFootnote label) = refl

continued-container : (k : ContainerKind) → is_container (continues_with k) ≡ true
continued-container kind.BlockQuote = refl
continued-container kind.ListItem = refl
continued-container kind.GfmFootnoteDefinition = refl

-- a state of a leaf is none of a container
parted : (m k : StateName) → is_container m ≡ false → is_container k ≡ true → m ≡ k → ⊥
parted m k one other same = let bad : false ≡ true = sym one ∙ ap is_container same ∙ other in cc

continued-opens : (k j : ContainerKind) → continues_with k ≡ opener_state j → ⊥
continued-opens kind.BlockQuote kind.BlockQuote e = cc
continued-opens kind.BlockQuote kind.ListItem e = cc
continued-opens kind.BlockQuote kind.GfmFootnoteDefinition e = cc
continued-opens kind.ListItem kind.BlockQuote e = cc
continued-opens kind.ListItem kind.ListItem e = cc
continued-opens kind.ListItem kind.GfmFootnoteDefinition e = cc
continued-opens kind.GfmFootnoteDefinition kind.BlockQuote e = cc
continued-opens kind.GfmFootnoteDefinition kind.ListItem e = cc
continued-opens kind.GfmFootnoteDefinition kind.GfmFootnoteDefinition e = cc

continued-before : (k : ContainerKind) → continues_with k ≡ s.ListItem item.Before → ⊥
continued-before kind.BlockQuote e = cc
continued-before kind.ListItem e = cc
continued-before kind.GfmFootnoteDefinition e = cc

opener-further : (k : ContainerKind) (c : Container) → opener_state k ≡ further_state c → ⊥
opener-further kind.BlockQuote (InQuote alert) e = cc
opener-further kind.BlockQuote (InItem digits marker width blank) e = cc
opener-further kind.BlockQuote (InFootnote label) e = cc
opener-further kind.ListItem (InQuote alert) e = cc
opener-further kind.ListItem (InItem digits marker width blank) e = cc
opener-further kind.ListItem (InFootnote label) e = cc
opener-further kind.GfmFootnoteDefinition (InQuote alert) e = cc
opener-further kind.GfmFootnoteDefinition (InItem digits marker width blank) e = cc
opener-further kind.GfmFootnoteDefinition (InFootnote label) e = cc

opener-before : (k : ContainerKind) → opener_state k ≡ s.ListItem item.Before → ⊥
opener-before kind.BlockQuote e = cc
opener-before kind.ListItem e = cc
opener-before kind.GfmFootnoteDefinition e = cc

opener-same : (k j : ContainerKind) → opener_state k ≡ opener_state j → k ≡ j
opener-same kind.BlockQuote kind.BlockQuote e = refl
opener-same kind.BlockQuote kind.ListItem e = cc
opener-same kind.BlockQuote kind.GfmFootnoteDefinition e = cc
opener-same kind.ListItem kind.BlockQuote e = cc
opener-same kind.ListItem kind.ListItem e = refl
opener-same kind.ListItem kind.GfmFootnoteDefinition e = cc
opener-same kind.GfmFootnoteDefinition kind.BlockQuote e = cc
opener-same kind.GfmFootnoteDefinition kind.ListItem e = cc
opener-same kind.GfmFootnoteDefinition kind.GfmFootnoteDefinition e = refl

-- Where a run is.

-- in the indent of an item nothing but whitespace is read
abbrev pub IsWhite : State → Type 0
IsWhite (Next (s.SpaceOrTab state)) = Unit {0}
IsWhite (Retry (s.SpaceOrTab state)) = Unit {0}
IsWhite Ok = Unit {0}
IsWhite Nok = Unit {0}
IsWhite t = ⊥

-- no attempt of these continues at such a state
abbrev pub AreFree : List Frame → Type 0
AreFree [] = Unit {0}
AreFree (f ∷ fs) = IsFreeFrame f × AreFree fs

pub data Placed (still : HeldLeaf) (t : State) (v : World) : Type 0 where
  -- no attempt continues at one,
  Outside : AreFree v.frames → IsCalled still t v → Placed still t v
  -- or that at the indent of an item does, at the state before its marker
  InIndent : (f : Frame) (outer : List Frame) → v.frames ≡ f ∷ outer → AreFree outer →
      f.ok ≡ Next (s.ListItem item.Before) → f.nok ≡ Nok → IsWhite t → HasMet v.flags.leaf still → Placed still t v

white-called : (still : HeldLeaf) (t : State) (v : World) → IsWhite t → IsCalled still t v
white-called still Ok v is name e = cc
white-called still Nok v is name e = cc
white-called still Error v is name e = absurd is
white-called still (Next (s.SpaceOrTab state)) v is name e =
    stays-called still (Next (s.SpaceOrTab state)) v refl name e
white-called still (Next m) v is name e = absurd is
white-called still (Retry (s.SpaceOrTab state)) v is name e =
    stays-called still (Retry (s.SpaceOrTab state)) v refl name e
white-called still (Retry m) v is name e = absurd is

pub placed-called : (still : HeldLeaf) (t : State) (v : World) → Placed still t v → IsCalled still t v
placed-called still t v (Outside free called) = called
placed-called still t v (InIndent f outer frames free ok nok is met) = white-called still t v is

-- Calls.

abbrev PlacedAfter : HeldLeaf → Transition → Type 0
PlacedAfter still x = Placed still x.to x.world

-- of a state that leads to no first state
leads-placed : (still : HeldLeaf) (w : World) (x : Transition) → AreFree w.frames → LeadsFree w x → PlacedAfter still x
leads-placed still w x free leads = go leads.frames
  where
    go : (x.world.frames ≡ w.frames) ⊎ Begins w x.world → PlacedAfter still x
    go (inl same) = Outside (subst AreFree (sym same) free) (stays-called still x.to x.world leads.to)
    go (inr b) = Outside (subst AreFree (sym b.frames) (b.inner, free)) (stays-called still x.to x.world leads.to)

-- of flow
flow-named : (name : StateName) → is_flow name ≡ true → is_free name ≡ true
flow-named (s.Flow state) is = refl
flow-named (s.Document state) is = refl
flow-named name is = cc

flow-free : (t : State) → IsFlow t → StaysFree t
flow-free Ok is = tt
flow-free Nok is = tt
flow-free Error is = tt
flow-free (Next name) is = flow-named name is
flow-free (Retry name) is = flow-named name is

tried-called : (options : ParseOptions) (cells : List Cell) (still : HeldLeaf) (g : Flags) (p : Point)
    (start : StateName) (nok : State) → Tried options cells start nok g still → IsCalledAt still start g p
tried-called options cells still g p start nok (AtLeaf l is asked at met front) = record {
  leaf = λ m e. (met, at);
  opener = λ k e. absurd (parted (leaf l).start (opener_state k) (tried-other l) (opener-container k) (sym is ∙ e));
  further =
      λ c e. absurd (parted (leaf l).start (further_state c) (tried-other l) (further-container c) (sym is ∙ e));
  before = λ e. absurd (parted (leaf l).start (s.ListItem item.Before) (tried-other l) refl (sym is ∙ e));
}
tried-called options cells still g p start nok (AtBlank is met front) = free-called still start g p (ap is_free is)
tried-called options cells still g p start nok (AtText is none) = free-called still start g p (ap is_free is)

flow-placed : (options : ParseOptions) (feed : Feed) (still : HeldLeaf) (w : World) (x : Transition) →
    AreFree w.frames → FlowLeads options feed still w x → PlacedAfter still x
flow-placed options feed still w x free (Follows_on to frames met) =
    Outside (subst AreFree (sym frames) free) (stays-called still x.to x.world (flow-free x.to to))
flow-placed options feed still w x free (Tries_leaf start f ok nok past frames low to kept point tried) =
    Outside (subst AreFree (sym frames) (record { ok = flow-free f.ok ok; nok = flow-free f.nok nok }, free))
    (subst (λ (t : State). IsCalled still t x.world) (sym to)
    (named-called still start x.world
    (tried-called options (feed x.world.point) still x.world.flags x.world.point start f.nok tried)))

-- of the document, where it asks and tries no container
abbrev is_asking : DocumentState → Bool
is_asking document.ContainerExistingBefore = true
is_asking document.ContainerNewBefore = true
is_asking document.ContainerNewBeforeNotBlockQuote = true
is_asking document.ContainerNewBeforeNotList = true
is_asking document.FlowInside = true
is_asking d = false

front-free : (x : Bool) → is_free (leaf_front x) ≡ true
front-free true = refl
front-free false = refl

end-leads : (w : World) (v : World) (o : Option ℕ) → v.frames ≡ w.frames → LeadsFree w (flow_end_code v o)
end-leads w v None same = turns w _ _ same tt
end-leads w v (Some b) same = either w _ _ (b == 10) (turns w _ _ same refl) (turns w _ _ same tt)

document-leads : (d : DocumentState) (w : World) → is_asking d ≡ false → LeadsFree w (document_own_transition d w)
document-leads document.Start w other = tries w w (s.Bom bom.Start) _ _ w.scratch refl refl refl refl
document-leads document.BeforeFrontmatter w other =
    tries w w (s.Frontmatter front.Start) _ _ w.scratch refl refl tt tt
document-leads document.ContainerExistingBefore w other = cc
document-leads document.ContainerExistingAfter w other = turns w _ _ refl refl
document-leads document.ContainerNewBefore w other = cc
document-leads document.ContainerNewBeforeNotBlockQuote w other = cc
document-leads document.ContainerNewBeforeNotList w other = cc
document-leads document.ContainerNewBeforeNotFootnoteDefinition w other = turns w _ _ refl refl
document-leads document.ContainerNewAfter w other = turns w _ _ refl refl
document-leads document.ContainersAfter w other = turns w _ _ refl (front-free _)
document-leads document.FlowInside w other = cc
document-leads document.FlowEnd w other =
    end-leads w (closed w (kept_containers w.flags) w.flags.line_end) w.current refl

-- where it does
data TriesAt (start : StateName) (w : World) (x : Transition) : Type 0 where
  Leads_on : LeadsFree w x → TriesAt start w x
  Begins_at : (f : Frame) → x.world.frames ≡ f ∷ w.frames → IsFreeFrame f → x.to ≡ Retry start →
      x.world.flags.leaf ≡ w.flags.leaf → TriesAt start w x

trial-at : (w v : World) (start : StateName) (ok nok : DocumentState) (may : Bool) → v.frames ≡ w.frames →
    v.flags.leaf ≡ w.flags.leaf → TriesAt start w (trial_code start (s.Document ok) (s.Document nok) v may)
trial-at w v start ok nok true same leaf =
    Begins_at frame (ap (λ (fs : List Frame). frame ∷ fs) same) (record { ok = refl; nok = refl }) refl leaf
  where
    frame : Frame
    frame = frame_of v (s.Document ok) (s.Document nok)
trial-at w v start ok nok false same leaf = Leads_on (turns w _ _ same refl)

trial-placed : (still : HeldLeaf) (start : StateName) (w : World) (x : Transition) → AreFree w.frames →
    TriesAt start w x →
    (x.to ≡ Retry start → x.world.flags.leaf ≡ w.flags.leaf → IsCalledAt still start x.world.flags x.world.point) →
    PlacedAfter still x
trial-placed still start w x free (Leads_on leads) called = leads-placed still w x free leads
trial-placed still start w x free (Begins_at f frames inner to leaf) called =
    Outside (subst AreFree (sym frames) (inner, free))
    (subst (λ (t : State). IsCalled still t x.world) (sym to) (named-called still start x.world (called to leaf)))

opener-leads : (k : ContainerKind) (w : World) → TriesAt (opener_state k) w (flow_transition (before_opener k) w)
opener-leads kind.BlockQuote w = trial-at w _ _ _ _ _ refl refl
opener-leads kind.ListItem w = trial-at w _ _ _ _ _ refl refl
opener-leads kind.GfmFootnoteDefinition w = trial-at w _ _ _ _ _ refl refl

opener-between : (k : ContainerKind) → (d : DocumentState) × (before_opener k ≡ s.Document d) × (is_between d ≡ true)
opener-between kind.BlockQuote = (document.ContainerNewBefore, refl, refl)
opener-between kind.ListItem = (document.ContainerNewBeforeNotBlockQuote, refl, refl)
opener-between kind.GfmFootnoteDefinition = (document.ContainerNewBeforeNotList, refl, refl)

-- of a quote that opens: it begins with the state before a further prefix
quote-further : (c : Container) (g : Flags) (p : Point) → s.BlockQuote quote.ContStart ≡ further_state c →
    g.asked ≡ container_of kind.BlockQuote → g.asked_column ≡ p.column → IsFurtherAt c g p
quote-further (InQuote alert) g p e asked column =
    record { container = InQuote alert; state = refl; held = asked; column = column }
quote-further (InItem digits marker width blank) g p e asked column = absurd (cc)
quote-further (InFootnote label) g p e asked column = absurd (cc)

quote-placed : (still : HeldLeaf) (w : World) (on alerts : Bool) → AreFree w.frames →
    IsOpenerAt still kind.BlockQuote w.flags w.point → PlacedAfter still (QuoteStates.start_code w on alerts)
quote-placed still w true true free at =
    Outside free (stays-called still (Retry (s.BlockQuote quote.OpenStart)) w refl)
quote-placed still w true false free at =
    Outside free
    (named-called still (s.BlockQuote quote.ContStart) (entered w n.BlockQuote) (record {
      leaf = λ l e. absurd (parted (first_state l) (s.BlockQuote quote.ContStart) (leaf-other l) refl (sym e));
      opener = λ k e. absurd (continued-opens kind.BlockQuote k e);
      further = λ c e. quote-further c w.flags w.point e at.asked at.column;
      before = λ e. absurd (continued-before kind.BlockQuote e);
    }))
quote-placed still w false alerts free at = Outside free (stays-called still Nok w tt)

-- of an item that opens: after its indent it tests for a break
before-further : (c : Container) → s.ListItem item.Before ≡ further_state c → ⊥
before-further (InQuote alert) e = cc
before-further (InItem digits marker width blank) e = cc
before-further (InFootnote label) e = cc

item-placed : (still : HeldLeaf) (w : World) (on t : Bool) → AreFree w.frames → HasMet w.flags.leaf still →
    PlacedAfter still (LeafStarts.start_code n.ListItem (s.ListItem item.Before) w on t)
item-placed still w false t free met = Outside free (stays-called still Nok w tt)
item-placed still w true true free met = InIndent frame w.frames refl free refl refl tt met
  where
    frame : Frame
    frame = record {
      ok = Next (s.ListItem item.Before);
      nok = Nok;
      is_check = false;
      events_len = length (entered w n.ListItem).events;
      point = w.point;
    }
item-placed still w true false free met =
    Outside free
    (named-called still (s.ListItem item.Before) (entered w n.ListItem) (record {
      leaf = λ l e. absurd (parted (first_state l) (s.ListItem item.Before) (leaf-other l) refl (sym e));
      opener = λ k e. absurd (opener-before k (sym e));
      further = λ c e. absurd (before-further c e);
      before = λ e. met;
    }))

either-placed : (still : HeldLeaf) (x y : Transition) (t : Bool) → PlacedAfter still x → PlacedAfter still y →
    PlacedAfter still (cond t x y)
either-placed still x y true h k = h
either-placed still x y false h k = k

bullet-placed : (still : HeldLeaf) (w : World) (may : Bool) → AreFree w.frames → HasMet w.flags.leaf still →
    PlacedAfter still (ItemStates.bullet_code w may)
bullet-placed still w true free met =
    Outside (record { ok = tt; nok = refl }, free)
    (named-called still (s.ThematicBreak thematic_break.Start) w (record {
      leaf = λ l e. (met, tt);
      opener = λ k e. absurd (parted start (opener_state k) refl (opener-container k) e);
      further = λ c e. absurd (parted start (further_state c) refl (further-container c) e);
      before = λ e. absurd (parted start (s.ListItem item.Before) refl refl e);
    }))
  where
    start : StateName
    start = s.ThematicBreak thematic_break.Start
bullet-placed still w false free met =
    Outside free (stays-called still (Retry (s.ListItem item.BeforeUnordered)) w refl)

marker-placed : (still : HeldLeaf) (w : World) (o : Option ℕ) → AreFree w.frames → HasMet w.flags.leaf still →
    PlacedAfter still (ItemStates.before_code w o)
marker-placed still w None free met = Outside free (stays-called still Nok w tt)
marker-placed still w (Some b) free met =
    either-placed still (ItemStates.bullet_code w (ItemStates.may_break w b)) (cond ordered numbered refused) (is_bullet b)
    (bullet-placed still w (ItemStates.may_break w b) free met)
    (either-placed still numbered refused ordered
    (Outside free (stays-called still (Retry (s.ListItem item.BeforeOrdered)) w refl))
    (Outside free (stays-called still Nok w tt)))
  where
    ordered : Bool
    ordered = is_digit b && (not (interrupts w.flags) || (b == 49))

    numbered : Transition
    numbered = ItemStates.proceeds_to item.BeforeOrdered w

    refused : Transition
    refused = ItemStates.refused w

-- of whitespace
record StaysWhite (w : World) (x : Transition) : Type 0 where
  white : IsWhite x.to
  frames : x.world.frames ≡ w.frames
  flags : x.world.flags ≡ w.flags

white-stays : (state : WhiteState) (w : World) → StaysWhite w (WhiteStates.white_transition state w)
white-stays white.Start w = start (WhiteStates.begins_white w)
  where
    start : (t : Bool) → StaysWhite w (WhiteStates.start_code w t)
    start true = record { white = tt; frames = refl; flags = refl }
    start false = record { white = tt; frames = refl; flags = refl }
white-stays white.Inside w = inside _
  where
    inside : (t : Bool) → StaysWhite w (WhiteStates.inside_code w t)
    inside true = record { white = tt; frames = refl; flags = refl }
    inside false = record { white = tt; frames = refl; flags = refl }
white-stays white.After w = after _
  where
    after : (t : Bool) → StaysWhite w (WhiteStates.after_code w t)
    after true = record { white = tt; frames = refl; flags = refl }
    after false = record { white = tt; frames = refl; flags = refl }

white-name : (t : State) (name : StateName) → plain t ≡ Next name → IsWhite t →
    (state : WhiteState) × (name ≡ s.SpaceOrTab state)
white-name Ok name e is = absurd (cc)
white-name Nok name e is = absurd (cc)
white-name Error name e is = absurd is
white-name (Next (s.SpaceOrTab state)) name e is = (state, cc)
white-name (Next m) name e is = absurd is
white-name (Retry (s.SpaceOrTab state)) name e is = (state, cc)
white-name (Retry m) name e is = absurd is

-- Any call that takes no ending.
module _ (under : Setting) (feed : Feed) (still : HeldLeaf) (t : State) (v : World) (t' : State) (v' : World)
    (on : OnLine under feed still t v) (seen : Sees feed (reading v)) (c : Calls FlowStep true t v t' v') where
  by : (name : StateName) → c.name ≡ name → PlacedAfter still (flow_transition name (reading v)) → Placed still t' v'
  by name e is =
      subst₂ (λ (x : State) (w : World). Placed still x w) (sym c.step.to_is) (sym c.step.new_is)
      (subst (λ (m : StateName). PlacedAfter still (flow_transition m (reading v))) (sym e) is)

  -- the step of this state
  step-of : (name : StateName) → c.name ≡ name → FlowStep name (reading v) t' v'
  step-of name e = subst (λ (m : StateName). FlowStep m (reading v) t' v') e c.step

  asks-placed : AreFree v.frames → c.name ≡ s.Document document.ContainerExistingBefore → Placed still t' v'
  asks-placed free e =
      by (s.Document document.ContainerExistingBefore) e
      (go (ends_line (looks v)) (next_container v.flags) (step-of (s.Document document.ContainerExistingBefore) e).to_is
      (step-of (s.Document document.ContainerExistingBefore) e).new_is)
    where
      at : (name : StateName) (x : Transition) → t' ≡ x.to → v' ≡ x.world → x.to ≡ Retry name → (d : Container) →
          name ≡ further_state d → IsFurtherAt d x.world.flags x.world.point
      at name x to new start d same =
          let tried = further-tried under feed still t v t' v' on c e d
          (to ∙ start ∙ ap (λ (m : StateName). Retry m) same) in
          subst (λ (w : World). IsFurtherAt d w.flags w.point) new (record {
            container = tried.container;
            state = tried.state;
            held = tried.held;
            column = tried.column;
          })

      go : (ends : Bool) (o : Option Held) →
          t' ≡ (existing_before_code (reading v) ends o).to →
          v' ≡ (existing_before_code (reading v) ends o).world →
          PlacedAfter still (existing_before_code (reading v) ends o)
      go true o to new =
          Outside free
          (stays-called still (Retry (s.Document document.ContainersAfter))
          (record (reading v) { flags = ended_on v.flags }) refl)
      go false None to new =
          Outside free
          (stays-called still (Retry (s.Document (following_all (bars_containers v.flags.leaf)))) (reading v) refl)
      go false (Some k) to new =
          trial-placed still (continues_with k.kind) (reading v)
          (trial_code (continues_with k.kind) (s.Document document.ContainerExistingAfter)
          (s.Document (opener_front openers)) (asking k (reading v))
          (may_with (may_continue k.kind) (looks_after (reading v)))) free
          (trial-at (reading v) (asking k (reading v)) (continues_with k.kind) document.ContainerExistingAfter
          (opener_front openers) (may_with (may_continue k.kind) (looks_after (reading v))) refl refl)
          (λ start kept. record {
            leaf =
                λ l same. absurd
                (parted (first_state l) (continues_with k.kind) (leaf-other l) (continued-container k.kind) (sym same));
            opener = λ j same. absurd (continued-opens k.kind j same);
            further =
                λ d same. at (continues_with k.kind) (existing_before_code (reading v) false (Some k)) to new start d same;
            before = λ same. absurd (continued-before k.kind same);
          })

  opens-placed : AreFree v.frames → (k : ContainerKind) → c.name ≡ before_opener k → Placed still t' v'
  opens-placed free k e =
      by (before_opener k) e
      (trial-placed still (opener_state k) (reading v) x free (opener-leads k (reading v))
      (λ start kept. record {
        leaf =
            λ l same. absurd (parted (first_state l) (opener_state k) (leaf-other l) (opener-container k) (sym same));
        opener =
            λ j same. subst (λ (i : ContainerKind). IsOpenerAt still i x.world.flags x.world.point)
            (opener-same k j same) (at start kept);
        further = λ d same. absurd (opener-further k d same);
        before = λ same. absurd (opener-before k same);
      }))
    where
      x : Transition
      x = flow_transition (before_opener k) (reading v)

      met : Meets v.flags still
      met =
          let d = opener-between k in
          between-met under feed still t v on d.0 d.2
          (c.names ∙ ap (λ (m : StateName). Next m) (e ∙ d.1))

      holds : (held : HeldLeaf) → (held ≡ still) ⊎ (held ≡ held_leaf.None) → HasMet held still
      holds held (inl same) = inl (true, same)
      holds held (inr none) = inr none

      at : x.to ≡ Retry (opener_state k) → x.world.flags.leaf ≡ v.flags.leaf →
          IsOpenerAt still k x.world.flags x.world.point
      at start kept =
          let tried = opener-tried k t v t' v' c e ((step-of (before_opener k) e).to_is ∙ start) in
          let new : v' ≡ x.world = (step-of (before_opener k) e).new_is in
          record {
            asked = sym (ap (λ (w : World). w.flags.asked) new) ∙ tried.asked;
            column =
                sym (ap (λ (w : World). w.flags.asked_column) new) ∙ tried.column
                ∙ ap (λ (w : World). w.point.column) new;
            met = subst (λ (l : HeldLeaf). HasMet l still) (sym kept) (holds v.flags.leaf met.0);
          }

  pub placed-calls : Placed still t v → Placed still t' v'
  placed-calls (InIndent f outer frames free ok nok is met) =
      let named = white-name t c.name c.names is in
      let stays = white-stays named.0 (reading v) in
      by (s.SpaceOrTab named.0) named.1
      (InIndent f outer (stays.frames ∙ frames) free ok nok stays.white
      (subst (λ (g : Flags). HasMet g.leaf still) (sym stays.flags) met))
  placed-calls (Outside free called) = go (is_plain c.name) refl
    where
      is : IsCalledAt still c.name v.flags v.point
      is = called c.name c.names

      flow : tries_leaf c.name ≡ true → Placed still t' v'
      flow tries =
          by c.name refl
          (flow-placed under.options feed still (reading v) (flow_transition c.name (reading v)) free
          (flow-led under feed still t v t' v' on seen c tries))

      document-placed : (d : DocumentState) → c.name ≡ s.Document d → is_asking d ≡ false → Placed still t' v'
      document-placed d e other =
          by (s.Document d) e
          (leads-placed still (reading v) (document_own_transition d (reading v)) free
          (document-leads d (reading v) other))

      special : (name : StateName) → c.name ≡ name → is_plain name ≡ false → Placed still t' v'
      special (s.Flow state) e p = flow (ap tries_leaf e)
      special (s.Document document.FlowInside) e p = flow (ap tries_leaf e)
      special (s.Document document.ContainerExistingBefore) e p = asks-placed free e
      special (s.Document document.ContainerNewBefore) e p = opens-placed free kind.BlockQuote e
      special (s.Document document.ContainerNewBeforeNotBlockQuote) e p = opens-placed free kind.ListItem e
      special (s.Document document.ContainerNewBeforeNotList) e p = opens-placed free kind.GfmFootnoteDefinition e
      special (s.Document d) e p = document-placed d e refl
      special (s.BlockQuote quote.Start) e p =
          by (s.BlockQuote quote.Start) e
          (quote-placed still (reading v) v.setting.options.constructs.block_quote v.setting.options.constructs.alerts
          free (is.opener kind.BlockQuote e))
      special (s.ListItem item.Start) e p =
          by (s.ListItem item.Start) e
          (item-placed still (reading v) v.setting.options.constructs.list_item (sees_white (looks v)) free
          (is.opener kind.ListItem e).met)
      special (s.ListItem item.Before) e p =
          by (s.ListItem item.Before) e (marker-placed still (reading v) (looks v) free (is.before e))
      special name e p = cc

      go : (x : Bool) → is_plain c.name ≡ x → Placed still t' v'
      go true e =
          by c.name refl
          (leads-placed still (reading v) (flow_transition c.name (reading v)) free
          (free-leads c.name (reading v) e))
      go false e = special c.name refl e

-- Ends of attempts.
next-free : (f : Frame) (t : State) → IsEnd t → IsFreeFrame f → StaysFree (next_of f t)
next-free f Ok end free = free.ok
next-free f Nok end free = free.nok
next-free f Error end free = absurd end
next-free f (Next m) end free = absurd end
next-free f (Retry m) end free = absurd end

placed-leaves : (still : HeldLeaf) (t : State) (v : World) (t' : State) (v' : World) → Placed still t v →
    Leaves t v t' v' → Placed still t' v'
placed-leaves still t v t' v' (Outside free called) l =
    Outside (subst AreFree (sym frames) both.1)
    (stays-called still t' v' (subst StaysFree (sym l.next) (next-free l.frame t l.end both.0)))
  where
    both : IsFreeFrame l.frame × AreFree l.outer
    both = subst AreFree l.frames free

    frames : v'.frames ≡ l.outer
    frames =
        ap (λ (w : World). w.frames) l.new ∙ left-outer v l.outer l.frame (leads_back l.frame t)
placed-leaves still t v t' v' (InIndent f outer frames free ok nok is met) l = go t l.end l.next
  where
    same : f ∷ outer ≡ l.frame ∷ l.outer
    same = sym frames ∙ l.frames

    frame : f ≡ l.frame
    frame = let both = same in cc

    around : outer ≡ l.outer
    around = let both = same in cc

    left-free : AreFree v'.frames
    left-free =
        subst AreFree
        (around ∙ sym (left-outer v l.outer l.frame (leads_back l.frame t)) ∙ ap (λ (w : World). w.frames) (sym l.new))
        free

    flags : v'.flags ≡ v.flags
    flags =
        ap (λ (w : World). w.flags) l.new ∙ left-flags v l.outer l.frame (leads_back l.frame t)

    met-there : HasMet v'.flags.leaf still
    met-there = subst (λ (g : Flags). HasMet g.leaf still) (sym flags) met

    before : IsCalled still (Next (s.ListItem item.Before)) v'
    before =
        named-called still (s.ListItem item.Before) v' (record {
          leaf = λ k e. absurd (parted (first_state k) (s.ListItem item.Before) (leaf-other k) refl (sym e));
          opener = λ k e. absurd (opener-before k (sym e));
          further = λ c e. absurd (before-further c e);
          before = λ e. met-there;
        })

    go : (x : State) → IsEnd x → t' ≡ next_of l.frame x → Placed still t' v'
    go Ok end next =
        Outside left-free
        (subst (λ (x : State). IsCalled still x v') (sym (next ∙ ap (λ (g : Frame). g.ok) (sym frame) ∙ ok)) before)
    go Nok end next =
        Outside left-free
        (stays-called still t' v' (subst StaysFree (sym (next ∙ ap (λ (g : Frame). g.nok) (sym frame) ∙ nok)) tt))
    go Error end next = absurd end
    go (Next m) end next = absurd end
    go (Retry m) end next = absurd end

-- All of a run over a text.
pub placed-on : (options : ParseOptions) (bytes : List ℕ) (p : Point) → length bytes < 2 ^ 61 → (feed : Feed) →
    Follows feed (text_setting bytes options p) true → (t : State) (v : World) →
    (run : Runs FlowStep true line_begins (flow_begins bytes options p) t v) →
    Placed (still_after options bytes p (fed FlowStep true line_begins (flow_begins bytes options p) t v run)) t v
placed-on options bytes p small feed follows t v Stays =
    Outside tt
    (stays-called (still_after options bytes p 0) (Next (s.Document document.ContainerExistingBefore))
    (flow_begins bytes options p) refl)
placed-on options bytes p small feed follows to new (ThenLeaves t v t' v' run l) =
    placed-leaves
    (still_after options bytes p (fed FlowStep true line_begins (flow_begins bytes options p) t v run)) t v t' v'
    (placed-on options bytes p small feed follows t v run) l
placed-on options bytes p small feed follows to new (ThenCalls t v t' v' run c) =
    go (none-or-ending c.name (looks v)) (placed-on options bytes p small feed follows t v run)
  where
    count : ℕ
    count = fed FlowStep true line_begins (flow_begins bytes options p) t v run

    P : ℕ → Type 0
    P k = Placed (still_after options bytes p k) t' v'

    go : (feeds c.name (looks v) ≡ 0) ⊎ ((c.name ≡ s.Document document.FlowEnd) × (looks v ≡ Some 10)) →
        Placed (still_after options bytes p count) t v → P (feeds c.name (looks v) + count)
    go (inl none) placed =
        let same : count ≡ feeds c.name (looks v) + count = omega (arith, none) in
        subst P same
        (placed-calls (text_setting bytes options p) feed (still_after options bytes p count) t v t' v'
        (run-on options bytes p small feed follows t v run)
        (sees feed v true
        (subst (λ (x : Setting). Follows feed x true)
        (sym (runs-setting FlowStep true line_begins (flow_begins bytes options p) t v run)) follows)
        c.may) c placed)
    go (inr ending) placed =
        let one : feeds c.name (looks v) ≡ 1 =
        ap (λ (m : StateName). feeds m (looks v)) ending.0
        ∙ ap (λ (o : Option ℕ). feeds (s.Document document.FlowEnd) o) ending.1 in
        Outside (subst AreFree (sym (line-fed bytes options p small t v t' v' run c one).frames) tt)
        (stays-called (still_after options bytes p (feeds c.name (looks v) + count)) t' v'
        (subst StaysFree (sym (next-line t v t' v' c ending.0 ending.1)) refl))
