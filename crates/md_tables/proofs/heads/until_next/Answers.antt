use Rattle.std.proofs.Common.{◌≡◌, List, ap, drop, not, ◌∙◌}
use Rattle.std.specs.List.{prefix_len}
use Rattle.std.proofs.lemmas.List.{take_rest}
use Rattle.md_engine.specs.declared.event.Event.{Event}
use Rattle.md_tables.specs.Heads.{begins_chunk}
use Rattle.md_tables.proofs.HeadsWalk.{headed-next, headed-run}
use Rattle.md_tables.proofs.heads.until_next.Goals as goal

pub returns-then-begins_chunk-clause-passed : goal.returns-then-begins_chunk-clause-passed
returns-then-begins_chunk-clause-passed c = λ bytes options.
    let events = c.args.events.now in
    headed-next bytes options events c.until_head.result c.requires.some c.requires.none
    (rw (take_rest events 1) at (c.until_head.ensures.passed bytes options))

pub returns-else-begins_chunk-clause-passed : goal.returns-else-begins_chunk-clause-passed
returns-else-begins_chunk-clause-passed c = λ bytes options.
    let events = c.args.events.now in
    let rest : List Event = drop 1 events in
    let run : c.until_chunk.result ≡ prefix_len (λ (e : Event). not (begins_chunk e)) rest =
    c.until_chunk.ensures.value ∙ ap (prefix_len (λ (e : Event). not (begins_chunk e))) (take_rest events 1) in
    headed-next bytes options events c.until_chunk.result c.requires.some c.requires.none
    (rw run (headed-run bytes options rest))
