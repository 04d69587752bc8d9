-- A line of content, before it is read.
use Rattle.std.specs.Prelude.{refl, ℕ, ◌-◌, ◌≤◌, Bool, true, false, nat_lt, List}
use Rattle.md_meaning.specs.Rest.{Rest}
use Rattle.md_engine.specs.declared.event.Point.{Point}
use Rattle.md_engine.specs.declared.event.Link.{Link}
use Rattle.md_engine.specs.declared.event.Content.TheVariants as content
use Rattle.md_engine.specs.declared.event.Name.TheVariants as parts
use Rattle.md_engine.specs.declared.resolve.name.Name.TheVariants.{Content as ContentResolver}
use Rattle.md_engine.specs.declared.state.Name.{Name as StateName}
use Rattle.md_engine.specs.declared.state.Name.TheVariants as n
use Rattle.md_engine.specs.declared.state.content.State.{State as ContentState}
use Rattle.md_engine.specs.declared.state.content.State.TheVariants as its
use Rattle.md_engine.specs.declared.state.State.TheVariants.{Ok, Nok, Next, Retry}
use Rattle.md_engine.specs.declared.tokenizer.Scratch.{Scratch}
use Rattle.md_engine.specs.Scheme.{After, Ends, Rank, Scheme, Position, ranked}
use Rattle.md_engine.specs.World.{World, registered_before}
use Rattle.md_link_definitions.specs.OpenText.{begun_rest, text_following}
use Rattle.md_events.specs.Lent.{whole_from}
use Rattle.md_events.specs.Spaces.{IsRest, ends_line, rest_ready}
use Rattle.md_events.specs.Transition.{Transition, entered_link, exited, taken}
use Rattle.md_events.specs.WholeLine.{line_taken}

abbrev pub content_link : Link
content_link = record { previous = false; next = false; content = content.Content }

-- and as the rest that began there, in its column and perhaps within a tab
abbrev pub rest_taken : List ℕ → Scratch → Point → Rest
rest_taken bytes s p = begun_rest s.size s.seen (line_taken bytes s p)

-- where a line began, and no more
abbrev pub begun : Point → Scratch → Scratch
begun p s = record s { start = whole_from p; size = p.column - 1; seen = nat_lt 0 p.vs }

abbrev pub unbegun : Scratch → Scratch
unbegun s = record s { start = 0; size = 0; seen = false }

abbrev pub chunk_start_transition : World → Transition
chunk_start_transition w =
    record {
      to = Retry (n.Content its.ChunkInside);
      world = record (entered_link w parts.Content content_link) { scratch = begun w.point w.scratch };
    }

-- by whether the line ends here, of which an open text is said
abbrev pub chunk_inside_code : World → Bool → Transition
chunk_inside_code w true =
    record {
      to = Ok;
      world = record (exited w parts.Content) {
        resolvers = registered_before w.resolvers ContentResolver;
        scratch = unbegun w.scratch;
        flags = record w.flags { leaf = text_following w.flags.leaf (rest_taken w.setting.bytes w.scratch w.point) };
      };
    }
chunk_inside_code w false = record { to = Next (n.Content its.ChunkInside); world = taken w }

-- each state with what it does, where there is memory; those of definitions are not built
abbrev pub chunk_transition : ContentState → World → Transition
chunk_transition its.ChunkStart w = chunk_start_transition w
chunk_transition its.ChunkInside w = chunk_inside_code w (ends_line w.current)
chunk_transition _ w = record { to = Nok; world = w }

abbrev pub chunk_rank : StateName → Position → Rank
chunk_rank (n.Content its.ChunkStart) x = ranked 1 refl
chunk_rank _ x = ranked 0 refl

-- what a state of it needs: in a line, that this began before the point
abbrev pub ChunkInvariant : StateName → Position → Type 0
ChunkInvariant (n.Content its.ChunkInside) x = x.scratch.start ≤ whole_from x.point
ChunkInvariant _ x = IsRest x.scratch

-- in a line: at rest but for where it began
abbrev pub in_chunk : Position → After → Type 0
in_chunk x K =
    (x.scratch.start ≤ whole_from x.point) × IsRest (unbegun x.scratch) × Ends IsRest IsRest x K

-- no tokenizer is at a state that is not built
abbrev pub chunk_ready : StateName → Position → After → Type 0
chunk_ready (n.Content its.DefinitionBefore) x K = ⊥
chunk_ready (n.Content its.DefinitionAfter) x K = ⊥
chunk_ready (n.Content its.ChunkInside) x K = in_chunk x K
chunk_ready _ x K = rest_ready x K

abbrev pub chunk_scheme : Scheme
chunk_scheme = record { ready = chunk_ready; level = λ n. 1; rank = chunk_rank; tries = λ n. ranked 0 refl }
