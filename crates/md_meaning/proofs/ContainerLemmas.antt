-- What a container that opens leaves of a line is shorter than the line, so there is an end to containers.
use Rattle.std.proofs.Common.{Bool, length, Option, None}
use Rattle.std.specs.Option.{option_or}
use Rattle.md_engine.specs.declared.configuration.ParseOptions.{ParseOptions}
use Rattle.md_meaning.specs.Containers.{Taken, opens, opens_footnote, opens_item, opens_quote, quote_taken, with_kind}
use Rattle.md_meaning.specs.Rest.{Rest, after_indent, indent}
use Rattle.md_meaning.proofs.FindsLemmas.{first-found, when-found}
use Rattle.md_meaning.proofs.FootnoteTaken.{footnote-leaves}
use Rattle.md_meaning.proofs.ItemTaken.{item-leaves}
use Rattle.md_meaning.proofs.QuoteTaken.{kind-leaves, quote-leaves}
use Rattle.md_meaning.proofs.TakenLemmas.{Leaves, LeavesFewer, following-leaves}

-- each container that opens takes a byte
pub opens-leaves : (options : ParseOptions) (interrupting : Bool) (r : Rest) →
    LeavesFewer (opens options interrupting r) (length r.bytes)
unfolding opens_quote quote_taken opens_item opens_footnote
opens-leaves options interrupting r =
    let from : Rest = after_indent r in
    let quote : Option Taken = quote_taken options None r in
    first-found (Leaves (length r.bytes)) (opens_quote options r)
    (option_or (opens_item options interrupting r) (opens_footnote options r))
    (when-found (Leaves (length r.bytes)) options.constructs.block_quote (with_kind options quote)
    (λ e.
    kind-leaves options quote (length r.bytes)
    (following-leaves quote r
    (quote-leaves options None (indent r) from.column from.spaces from.bytes))))
    (first-found (Leaves (length r.bytes)) (opens_item options interrupting r) (opens_footnote options r)
    (following-leaves (opens_item options interrupting r) r
    (item-leaves options interrupting (indent r) from.column from.spaces from.bytes))
    (following-leaves (opens_footnote options r) r
    (footnote-leaves options (indent r) from.column from.spaces from.bytes)))
