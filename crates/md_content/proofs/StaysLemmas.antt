-- A line of content is taken as text.
use Rattle.std.proofs.Common.{◌≡◌, ℕ, Bool, true, false, not, nat_eq, Option, Some, None, IfSome, refl, ap, ◌∙◌}
use Rattle.md_engine.specs.declared.state.Name.{Name as StateName}
use Rattle.md_engine.specs.declared.state.Name.TheVariants as n
use Rattle.md_engine.specs.declared.state.content.State.TheVariants as content
use Rattle.md_engine.specs.declared.stay.Stay.{Stay}
use Rattle.md_engine.specs.declared.stay.Stay.TheVariants.{Line}
use Rattle.md_engine.specs.Staying.{StaysOn}
use Rattle.md_content.specs.Chunks.{chunk_inside_code, chunk_transition}
use Rattle.md_content.specs.States.{ContentStep, content_scheme, content_transition}
use Rattle.md_content.proofs.States.{content_terminates}
use Rattle.md_events.specs.Spaces.{ends_line}
use Rattle.md_events.specs.Stays.{TakesEach}
use Rattle.md_events.proofs.StaysLemmas.{stays-on}

-- what does not end a line
pub not-ending : (b : ℕ) → not (nat_eq b 10) ≡ true → nat_eq b 10 ≡ false
not-ending b h = go (nat_eq b 10) h
  where
    go : (x : Bool) → not x ≡ true → x ≡ false
    go false e = refl
    go true e = cc

pub chunk-takes : TakesEach Line (n.Content content.ChunkInside) (chunk_transition content.ChunkInside)
chunk-takes w b e h = ap (chunk_inside_code w) (ap ends_line e ∙ not-ending b h)

-- so the table of content stays there
pub content-stays : (name : StateName) (o : Option Stay) → IfSome o (λ k. TakesEach k name (content_transition name)) →
    IfSome o (λ k. StaysOn ContentStep content_scheme name k)
content-stays name None h = tt
content-stays name (Some k) h =
    stays-on ContentStep content_scheme name k (content_transition name)
    (λ w to new e k. record { to_is = e; new_is = k }) (content_terminates name) h
