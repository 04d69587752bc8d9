-- Each state of a line of content takes one step of its rule.
use Rattle.std.proofs.Common.{◌≡◌, ℕ, ◌≤◌, Bool, true, false, nat_eq, List, [], ◌∷◌, ◌++◌, Option, Some, None, refl}
use Rattle.std.proofs.Common.{sym, ◌∙◌, ap, ap₂, append-nil}
use Rattle.md_engine.specs.declared.event.Name.TheVariants as parts
use Rattle.md_engine.specs.declared.state.Name.TheVariants as n
use Rattle.md_engine.specs.declared.state.content.State.{State as ContentState}
use Rattle.md_engine.specs.declared.state.content.State.TheVariants as content
use Rattle.md_engine.specs.declared.state.State.{State}
use Rattle.md_engine.specs.declared.state.State.TheVariants.{Nok, Next}
use Rattle.md_engine.specs.declared.event.Point.{Point}
use Rattle.md_engine.specs.declared.tokenizer.Scratch.{Scratch}
use Rattle.md_engine.specs.Meaning.{Accepts, Behaviour, Cell, Feed, Here, Steps, here}
use Rattle.md_engine.specs.Scheme.{After, position}
use Rattle.md_engine.specs.World.{World, after, looks}
use Rattle.md_engine.specs.Sees.{Sees, ahead, cell_here}
use Rattle.md_engine.proofs.StepOf.{moves, passes, steps-as}
use Rattle.md_content.specs.ChunkRule.{ChunkMeans, HasChunk, chunk_at, inside_chunk, longer}
use Rattle.md_content.specs.Chunks.{ChunkInvariant, chunk_inside_code, chunk_ready, chunk_start_transition}
use Rattle.md_content.specs.Chunks.{chunk_transition, content_link, rest_taken, unbegun}
use Rattle.md_events.proofs.LineTaken.{bytes-none, taken-more}
use Rattle.md_meaning.specs.Rest.{Rest}
use Rattle.md_link_definitions.specs.OpenText.{begun_rest, text_following}
use Rattle.md_link_definitions.specs.WholeCells.{rest_here, whole_line}
use Rattle.md_events.specs.Ahead.{from_ending, line_end}
use Rattle.md_events.specs.Events.Nested.{enter_link, exit}
use Rattle.md_events.specs.Lent.{whole_from}
use Rattle.md_events.specs.Spaces.{IsRest, ends_line}
use Rattle.md_events.specs.WholeLine.{line_taken}

-- at rest no line has begun
rest-unbegun : (s : Scratch) → IsRest s → unbegun s ≡ s
rest-unbegun s e = ap unbegun e ∙ sym e

chunk_start_means : (B : Behaviour) (feed : Feed) (w : World) → HasChunk B w.setting.bytes → IsRest w.scratch →
    Steps B feed (Next (n.Content content.ChunkStart)) w (chunk_start_transition w).to (chunk_start_transition w).world
unfolding chunk_at
chunk_start_means B feed w has rest =
    moves B feed _ _ w (chunk_start_transition w).world (enter_link parts.Content w.point content_link ∷ []) refl refl
    (has.each content.ChunkStart _ _
    ∙ ap₂ (λ (line : List ℕ) (s : Scratch). inside_chunk (rest_here w.point line) (feed w.point)
    (record (here w) { events = w.events ++ enter_link parts.Content w.point content_link ∷ []; scratch = s }))
    (sym (bytes-none w.setting.bytes (whole_from w.point))) (sym (rest-unbegun w.scratch rest))
    ∙ sym (has.each content.ChunkInside _ _))

chunk-ends : (feed : Feed) (w : World) (front : Rest) (h : Here) (o : Option ℕ) → ends_line o ≡ true →
    inside_chunk front (ahead feed w o) h ≡
    Accepts
    (record h {
      events = h.events ++ exit parts.Content h.point ∷ [];
      flags = record h.flags { leaf = text_following h.flags.leaf front };
    })
    (ahead feed w o)
unfolding inside_chunk
chunk-ends feed w front h None e =
    ap (λ (line : List ℕ). Accepts
    (record h {
      events = h.events ++ exit parts.Content h.point ∷ [];
      flags = record h.flags { leaf = text_following h.flags.leaf (record front { bytes = line }) };
    })
    [])
    (append-nil front.bytes)
chunk-ends feed w front h (Some b) e =
    rw e
    (ap (λ (line : List ℕ). Accepts
    (record h {
      events = h.events ++ exit parts.Content h.point ∷ [];
      flags = record h.flags { leaf = text_following h.flags.leaf (record front { bytes = line }) };
    })
    (ahead feed w (Some b)))
    (append-nil front.bytes))

-- after a byte of the line, where all of it is the same
chunk-passes : (front more : Rest) (c : Cell) (cs : List Cell) (h : Here) → nat_eq c.byte 10 ≡ false →
    longer front (whole_line h.point (c ∷ cs)) ≡ longer more (whole_line c.after cs) →
    inside_chunk front (c ∷ cs) h ≡ inside_chunk more cs (record h { point = c.after })
unfolding inside_chunk
chunk-passes front more c cs h e same =
    let q = line_end cs c.after in
    let ends : line_end (c ∷ cs) h.point ≡ q = rw e refl in
    let rest : from_ending (c ∷ cs) ≡ from_ending cs = rw e refl in
    ap₂ (λ (p : Point) (r : Rest). Accepts
    (record h {
      events = h.events ++ exit parts.Content p ∷ [];
      point = p;
      flags = record h.flags { leaf = text_following h.flags.leaf r };
    })
    (from_ending (c ∷ cs)))
    ends same
    ∙ ap (Accepts
    (record h {
      events = h.events ++ exit parts.Content q ∷ [];
      point = q;
      flags = record h.flags { leaf = text_following h.flags.leaf (longer more (whole_line c.after cs)) };
    }))
    rest

chunk-more : (feed : Feed) (w : World) (h : Here) (o : Option ℕ) → h.point ≡ w.point →
    w.scratch.start ≤ whole_from w.point → o ≡ looks w → ends_line o ≡ false →
    let q = after w.setting w.point in
    inside_chunk (rest_taken w.setting.bytes w.scratch w.point) (ahead feed w o) h ≡
    inside_chunk (rest_taken w.setting.bytes w.scratch q) (feed q) (record h { point = q })
chunk-more feed w h None same le c e = cc
chunk-more feed w h (Some b) same le c e =
    let q = after w.setting w.point in
    let cell = cell_here feed w b in
    let front = line_taken w.setting.bytes w.scratch w.point in
    chunk-passes (rest_taken w.setting.bytes w.scratch w.point) (rest_taken w.setting.bytes w.scratch q)
    cell (feed q) h e
    (ap (begun_rest w.scratch.size w.scratch.seen)
    (ap (λ (p : Point). front ++ whole_line p (cell ∷ feed q)) same
    ∙ taken-more w.setting w.scratch w.point cell (feed q) le refl (sym c) e))

-- what is in a line, which began before its point
chunk_inside_means : (B : Behaviour) (feed : Feed) (w : World) (x : Bool) →
    HasChunk B w.setting.bytes → Sees feed w → w.current ≡ looks w → w.scratch.start ≤ whole_from w.point →
    ends_line w.current ≡ x →
    Steps B feed (Next (n.Content content.ChunkInside)) w (chunk_inside_code w x).to
    (chunk_inside_code w x).world
chunk_inside_means B feed w true has s c le e =
    moves B feed _ _ w (chunk_inside_code w true).world (exit parts.Content w.point ∷ []) refl refl
    (has.each content.ChunkInside _ _
    ∙ rw s.next
    (chunk-ends feed w (rest_taken w.setting.bytes w.scratch w.point)
    (record (here w) { scratch = unbegun w.scratch }) w.current e))
chunk_inside_means B feed w false has s c le e =
    passes B feed _ _ w (chunk_inside_code w false).world refl refl
    (has.each content.ChunkInside _ _
    ∙ ap (λ (l : List Cell). inside_chunk (rest_taken w.setting.bytes w.scratch w.point) l
    (record (here w) { scratch = unbegun w.scratch })) s.next
    ∙ chunk-more feed w (record (here w) { scratch = unbegun w.scratch }) w.current refl le c e
    ∙ sym (has.each content.ChunkInside _ _))

-- each state of a line of content takes one step of what it means
chunk_steps : (B : Behaviour) (feed : Feed) (state : ContentState) (w : World) → HasChunk B w.setting.bytes →
    Sees feed w → w.current ≡ looks w → ChunkInvariant (n.Content state) (position w) →
    Steps B feed (Next (n.Content state)) w (chunk_transition state w).to (chunk_transition state w).world
chunk_steps B feed content.ChunkStart w has s c at = chunk_start_means B feed w has at
chunk_steps B feed content.ChunkInside w has s c at = chunk_inside_means B feed w _ has s c at refl
chunk_steps B feed content.DefinitionBefore w has s c at =
    passes B feed _ Nok w w refl refl (has.each content.DefinitionBefore _ _)
chunk_steps B feed content.DefinitionAfter w has s c at =
    passes B feed _ Nok w w refl refl (has.each content.DefinitionAfter _ _)

-- and so where its attempts end as they have to
pub chunk_means : (B : Behaviour) (feed : Feed) (state : ContentState) (w : World) (K : After) →
    HasChunk B w.setting.bytes → Sees feed w → w.current ≡ looks w → chunk_ready (n.Content state) (position w) K →
    Steps B feed (Next (n.Content state)) w (chunk_transition state w).to (chunk_transition state w).world
chunk_means B feed content.ChunkStart w K has s c at = chunk_steps B feed content.ChunkStart w has s c at.0
chunk_means B feed content.ChunkInside w K has s c at = chunk_steps B feed content.ChunkInside w has s c at.0
chunk_means B feed state w K has s c at = absurd at

-- what answers as the transition of a state does means what the state means
pub chunk_rule : (state : ContentState) (w new : World) (to : State) → w.current ≡ looks w →
    to ≡ (chunk_transition state w).to → new ≡ (chunk_transition state w).world → ChunkMeans state w to new
unfolding ChunkMeans
chunk_rule state w new to c e k at B feed has s =
    steps-as B feed _ _ to w _ new e k (chunk_steps B feed state w has s c at)
