-- Each state of the document keeps what its table needs.
use Rattle.std.proofs.Common.{◌≡◌, false, length, Option, Some, None, IfSome, refl, arith}
use Rattle.md_engine.specs.declared.state.Name.{Name as StateName}
use Rattle.md_engine.specs.declared.state.Name.TheVariants as n
use Rattle.md_engine.specs.declared.state.bom.State.TheVariants as bom
use Rattle.md_engine.specs.declared.state.document.State.{State as DocumentState}
use Rattle.md_engine.specs.declared.state.document.State.TheVariants as document
use Rattle.md_engine.specs.declared.state.State.TheVariants.{Next, Ok}
use Rattle.md_engine.specs.declared.state.frontmatter.State.TheVariants as front
use Rattle.md_engine.specs.declared.stay.Stay.{Stay}
use Rattle.md_engine.specs.Scheme.{after_all, position, valid}
use Rattle.md_engine.specs.Staying.{StaysOn}
use Rattle.md_engine.specs.World.{World, looks}
use Rattle.md_engine.proofs.Falls.{later_at}
use Rattle.md_engine.proofs.Local.{begins_try, fits}
use Rattle.md_engine.proofs.Points.{stays}
use Rattle.md_containers.specs.Frontmatter.{front_scheme}
use Rattle.md_containers.proofs.FrontmatterTermination.{FrontFits, front_terminates}
use Rattle.md_leaves.specs.Bom.{bom_scheme}
use Rattle.md_leaves.proofs.BomTermination.{BomFits, bom_terminates}
use Rattle.md_events.specs.Spaces.{IsRest, rest_ready}
use Rattle.md_events.specs.Stays.{TakesEach}
use Rattle.md_events.proofs.StaysLemmas.{stays-on}
use Rattle.md_events.proofs.SpacesTermination.{Does, WhiteFits, white_terminates}
use Rattle.md_registry.specs.Document.{DocumentStep, before_frontmatter_transition, document_own_transition}
use Rattle.md_registry.specs.Document.{document_owner, document_scheme, document_table_scheme}
use Rattle.md_registry.specs.Document.{document_transition, start_transition}

white_fits : WhiteFits document_table_scheme
white_fits = record { each = λ state. fits document_owner (n.SpaceOrTab state) }

front_fits : FrontFits document_table_scheme
front_fits = record { white = white_fits; each = λ state. fits document_owner (n.Frontmatter state) }

bom_fits : BomFits document_table_scheme
bom_fits = record { each = λ state. fits document_owner (n.Bom state) }

-- the mark is tried, and what follows is at rest whether it was there or not
start_ends : (w : World) → rest_ready (position w) (after_all document_table_scheme w.frames) →
    Does document_table_scheme (n.Document document.Start) w (start_transition w)
start_ends w r =
    let following = fits document_owner (n.Document document.BeforeFrontmatter) in (
      begins_try document_table_scheme document_scheme bom_scheme (n.Document document.Start)
          (n.Bom bom.Start) w IsRest IsRest w.events w.scratch
          (record {
            ok = Next (n.Document document.BeforeFrontmatter);
            nok = Next (n.Document document.BeforeFrontmatter);
            is_check = false;
            events_len = length w.events;
            point = w.point;
          })
          (fits document_owner (n.Document document.Start)) (fits document_owner (n.Bom bom.Start)) following
          following refl
          (record {
            ok =
                λ s q t is up way. (
                  is,
                  later_at _ _ (position w) (after_all document_table_scheme w.frames) q t s up way r.1,
                );
            ok_level = omega arith;
            ok_rank = λ s t is up. omega arith;
            nok =
                λ s t is up. (
                  is,
                  later_at _ _ (position w) (after_all document_table_scheme w.frames) w.point t s up
                      (stays t.limit w.point) r.1,
                );
            nok_level = omega arith;
            nok_rank = λ s t is up. omega arith;
          }) (λ K e. (r.0, e)) (omega arith) (omega arith) (omega arith),
      refl,
    )

-- frontmatter is tried, and after it the document ends
front_ends : (w : World) → rest_ready (position w) (after_all document_table_scheme w.frames) →
    Does document_table_scheme (n.Document document.BeforeFrontmatter) w (before_frontmatter_transition w)
front_ends w r = (
  begins_try document_table_scheme document_scheme front_scheme (n.Document document.BeforeFrontmatter)
      (n.Frontmatter front.Start) w IsRest IsRest w.events w.scratch
      (record { ok = Ok; nok = Ok; is_check = false; events_len = length w.events; point = w.point })
      (fits document_owner (n.Document document.BeforeFrontmatter)) (fits document_owner (n.Frontmatter front.Start)) tt
      tt refl
      (record {
        ok = λ s q t is up way. r.1.ok s q t is up way;
        ok_level = omega arith;
        ok_rank = λ s t is up. omega arith;
        nok = λ s t is up. r.1.ok s w.point t is up (stays t.limit w.point);
        nok_level = omega arith;
        nok_rank = λ s t is up. omega arith;
      }) (λ K e. (r.0, e)) (omega arith) (omega arith) (omega arith),
  refl,
)

-- the states before the lines
own_terminates : (state : DocumentState) (w : World) → valid document_table_scheme w (Next (n.Document state)) →
    Does document_table_scheme (n.Document state) w (document_own_transition state w)
own_terminates document.Start w r = start_ends w r
own_terminates document.BeforeFrontmatter w r = front_ends w r
own_terminates state w r = absurd r

pub document_terminates : (name : StateName) (w : World) → w.current ≡ looks w →
    valid document_table_scheme w (Next name) → Does document_table_scheme name w (document_transition name w)
document_terminates (n.Bom state) w c r = bom_terminates document_table_scheme state w bom_fits c r
document_terminates (n.Frontmatter state) w c r = front_terminates document_table_scheme state w front_fits c r
document_terminates (n.SpaceOrTab state) w c r = white_terminates document_table_scheme state w white_fits c r
document_terminates (n.Document state) w c r = own_terminates state w r
document_terminates name w c r = absurd r

-- and stays on what it only takes
pub document-stays : (name : StateName) (o : Option Stay) →
    IfSome o (λ k. TakesEach k name (document_transition name)) →
    IfSome o (λ k. StaysOn DocumentStep document_table_scheme name k)
document-stays name None h = tt
document-stays name (Some k) h =
    stays-on DocumentStep document_table_scheme name k (document_transition name)
    (λ w to new e k. record { to_is = e; new_is = k }) (document_terminates name) h
