-- Events outside of headings: the resolver of headings passes them, and what is before a line is such.
use Rattle.std.proofs.Common.{◌≡◌, true, false, List, [], ◌∷◌, ◌++◌, refl, ap}
use Rattle.md_engine.specs.declared.event.Event.{Event}
use Rattle.md_engine.specs.declared.event.Name.{Name}
use Rattle.md_engine.specs.declared.event.Name.TheVariants as n
use Rattle.md_leaves.specs.HeadingText.{headings_resolved, is_heading}
use Rattle.proof_frame.proofs.EventNames.{is_front}
use Rattle.proof_frame.proofs.OutsideFacts.{AreOutside, LineResolver}

pub headings-outside : (xs ys : List Event) → AreOutside xs → headings_resolved (xs ++ ys) ≡ xs ++ headings_resolved ys
headings-outside [] ys h = refl
headings-outside (e ∷ xs) ys h = rw h.0 (ap (λ (l : List Event). e ∷ l) (headings-outside xs ys h.1))

abbrev pub heading_resolver : LineResolver
heading_resolver = record { resolved = headings_resolved; passes = headings-outside }

pub front-heading : (name : Name) → is_front name ≡ true → is_heading name ≡ false
front-heading n.HeadingAtx h = cc
front-heading _ h = refl
