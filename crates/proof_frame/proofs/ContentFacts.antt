-- Events in which no content is.
use Rattle.std.proofs.Common.{◌≡◌, Bool, true, false, List, [], ◌∷◌, ◌++◌, refl, ap}
use Rattle.std.specs.Prelude.{None, not}
use Rattle.md_engine.specs.declared.event.Content.{Content}
use Rattle.md_engine.specs.declared.event.Content.TheVariants as content
use Rattle.md_engine.specs.declared.event.Event.{Event}
use Rattle.md_content.specs.ContentReads.{wants_content}
use Rattle.md_content.proofs.LabelsLemmas.{has_no_label}
use Rattle.std.proofs.lemmas.Bool.{and_from}
use Rattle.md_events.specs.Substituted.{wanted}
use Rattle.proof_frame.proofs.EventNames.{is_recorded, recorded-label}
use Rattle.proof_frame.proofs.SubstitutedLemmas.{Unwanted}

-- no text, no string and no flow is wanted: content alone may be
pub record WantsContent (wants : Content → Bool) : Type 0 where
  pub text : wants content.Text ≡ false
  pub string : wants content.String ≡ false
  pub flow : wants content.Flow ≡ false

pub content-alone : WantsContent wants_content
content-alone = record { text = refl; string = refl; flow = refl }

-- events none of which is content or a label, or begins a chunk that the reader wants
abbrev pub NoContent : (Content → Bool) → List Event → Type 0
NoContent wants [] = Unit {0}
NoContent wants (e ∷ es) = (unwanted : wanted wants e ≡ None) × (name : is_recorded e.name ≡ false) × NoContent wants es

pub no_content-append : (wants : Content → Bool) (xs ys : List Event) → NoContent wants xs → NoContent wants ys →
    NoContent wants (xs ++ ys)
no_content-append wants [] ys h k = k
no_content-append wants (e ∷ xs) ys h k = (h.0, h.1, no_content-append wants xs ys h.2 k)

pub no_content-unwanted : (wants : Content → Bool) (es : List Event) → NoContent wants es → Unwanted wants es
no_content-unwanted wants [] h = tt
no_content-unwanted wants (e ∷ es) h = (h.0, no_content-unwanted wants es h.2)

-- a reader that wants nothing
abbrev pub nothing : Content → Bool
nothing _ = false

pub nothing-wanted : WantsContent nothing
nothing-wanted = record { text = refl; string = refl; flow = refl }

-- so no label is among them
pub no_content-label : (wants : Content → Bool) (es : List Event) → NoContent wants es → has_no_label es ≡ true
no_content-label wants [] h = refl
no_content-label wants (e ∷ es) h =
    and_from _ _ (ap not (recorded-label e.name h.1)) (no_content-label wants es h.2)
