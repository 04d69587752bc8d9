-- The prefix of a block quote keeps the grammar of events.
use Rattle.std.proofs.Common.{ℕ, List, [], ◌∷◌, refl, ap, sym, ◌∙◌, subst}
use Rattle.md_engine.specs.declared.event.Event.{Event}
use Rattle.md_engine.specs.declared.event.Name.TheVariants as n
use Rattle.md_engine.specs.declared.event.Point.{Point}
use Rattle.md_events.specs.Events.Grammar.{Expression, following, after_block, blocks, inside}
use Rattle.md_events.specs.Events.Nested.{enter}
use Rattle.md_events.proofs.GrammarLemmas.{Leads}
use Rattle.md_containers.proofs.QuoteLines.{IsPrefix}
use Rattle.proof_frame.proofs.ContainerNames.{TakesPrefixes}
use Rattle.md_events.proofs.QuoteGrammar.{leads-prefix}

-- where a quote continues
pub prefix-stays : (bytes : List ℕ) (p q : Point) (es : List Event) → IsPrefix bytes p q es → (text x : Expression) →
    TakesPrefixes x → Leads text (x ∷ []) (x ∷ []) es
prefix-stays bytes p q es is text x takes =
    subst (Leads text (x ∷ []) (x ∷ [])) (sym is.events)
    (leads-prefix text x x p is.marker is.following q takes.1 (ap (following n.BlockQuotePrefix) takes.0 ∙ takes.1))

-- and where it opens, with its begin
pub prefix-begins : (bytes : List ℕ) (p q : Point) (es : List Event) → IsPrefix bytes p q es → (text : Expression) →
    Leads text (blocks ∷ []) (blocks ∷ after_block ∷ []) (enter n.BlockQuote p ∷ es)
prefix-begins bytes p q es is text outer =
    subst (Leads text (inside text n.BlockQuote ∷ []) (blocks ∷ [])) (sym is.events)
    (leads-prefix text (inside text n.BlockQuote) blocks p is.marker is.following q refl refl) (after_block ∷ outer)
