-- What the events show of a container, and as which kind it is held, does not change while it is open.
use Rattle.std.proofs.Common.{◌≡◌, Bool, true, false, cond, ap, sym}
use Rattle.std.specs.Prelude.{None, Some}
use Rattle.md_engine.specs.declared.configuration.ParseOptions.{ParseOptions}
use Rattle.md_meaning.specs.Containers.{Taken, continues, footnote_continues, item_continues, quote_taken}
use Rattle.md_meaning.specs.Rest.{Rest}
use Rattle.md_meaning.specs.State.{Container, InFootnote, InItem, InQuote}
use Rattle.proof_frame.specs.ContainerNames.{container_kind, shape_of}

-- what is taken, if anything is, is in this container
when-container : (x : Bool) (u t : Taken) → cond x (Some u) None ≡ Some t → t.container ≡ u.container
when-container true u t e = let same : u ≡ t = cc in sym (ap (λ (x : Taken). x.container) same)
when-container false u t e = cc

-- so a container that continues has the shape that it had,
pub continues-shape : (options : ParseOptions) (c : Container) (r : Rest) (t : Taken) →
    continues options c r ≡ Some t → shape_of t.container ≡ shape_of c
unfolding quote_taken item_continues footnote_continues
continues-shape options (InQuote alert) r t e = ap shape_of (when-container _ _ t e)
continues-shape options (InItem digits marker width starts_blank) r t e = ap shape_of (when-container _ _ t e)
continues-shape options (InFootnote label) r t e = ap shape_of (when-container _ _ t e)

-- and the kind
pub continues-kind : (options : ParseOptions) (c : Container) (r : Rest) (t : Taken) →
    continues options c r ≡ Some t → container_kind t.container ≡ container_kind c
unfolding quote_taken item_continues footnote_continues
continues-kind options (InQuote alert) r t e = ap container_kind (when-container _ _ t e)
continues-kind options (InItem digits marker width starts_blank) r t e = ap container_kind (when-container _ _ t e)
continues-kind options (InFootnote label) r t e = ap container_kind (when-container _ _ t e)
