-- Lines of text that are heads of tables, read again before content: there are none where no content is.
use Rattle.std.proofs.Common.{◌≡◌, ℕ, Bool, true, false, cond, List, [], ◌∷◌, refl, ap, sym, ◌∙◌, append-nil}
use Rattle.std.specs.List.{list_any}
use Rattle.std.proofs.lemmas.Bool.{and_right, or_from}
use Rattle.md_engine.specs.declared.configuration.ParseOptions.{ParseOptions}
use Rattle.md_engine.specs.declared.event.Event.{Event}
use Rattle.md_engine.specs.declared.event.Name.{Name}
use Rattle.md_engine.specs.declared.event.Name.TheVariants as n
use Rattle.md_events.specs.Events.Nested.{is_enter}
use Rattle.md_tables.specs.Heads.{begins_chunk, headed, is_chunk}
use Rattle.md_tables.proofs.HeadsLemmas.{headed-following}
use Rattle.proof_leaf_laws.specs.Headed.{heads_read}
use Rattle.proof_frame.proofs.ContentFacts.{NoContent, nothing}
use Rattle.proof_frame.proofs.EventNames.{is_recorded}

-- Where no content is, no line is one.

recorded-chunk : (name : Name) → is_recorded name ≡ false → is_chunk name ≡ false
recorded-chunk n.Content h = cc
recorded-chunk _ h = refl

pub no-chunk : (es : List Event) → NoContent nothing es → list_any begins_chunk es ≡ false
no-chunk [] h = refl
no-chunk (e ∷ es) h =
    or_from (begins_chunk e) (list_any begins_chunk es)
    (and_right (is_enter e.kind) (is_chunk e.name) (recorded-chunk e.name h.1)) (no-chunk es h.2)

pub heads-none : (options : ParseOptions) (bytes : List ℕ) (es : List Event) → NoContent nothing es →
    heads_read options bytes es ≡ es
heads-none options bytes es h = go options.constructs.gfm_table
  where
    go : (x : Bool) → cond x (headed bytes options es) es ≡ es
    go true =
        ap (headed bytes options) (sym (append-nil es)) ∙ headed-following bytes options es [] (no-chunk es h)
        ∙ append-nil es
    go false = refl
