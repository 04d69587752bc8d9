use Rattle.std.proofs.Common.{◌≡◌, ◌∙◌, List, ap, drop, map}
use Rattle.std.specs.List.{prefix_len}
use Rattle.std.specs.Prelude.{string_bytes}
use Rattle.md_engine.specs.declared.event.Event.{Event}
use Rattle.md_content.specs.Labels.{labels_in}
use Rattle.md_content.specs.Resolves.{has_neither, is_all_read}
use Rattle.md_content.proofs.FoundLemmas.{found-following}
use Rattle.md_events.proofs.SubstitutedLemmas.{to-end}
use Rattle.md_content.proofs.content.found_among.Goals as goal

pub returns : goal.returns
returns c =
    let events : List Event = c.args.events.now in
    let left = to-end events c.until_either.result
    ∙ ap (λ n. drop n events) c.until_either.ensures.value in
    let done : c.is_done.result ≡ is_all_read (drop (prefix_len has_neither events) events) =
    rw left at c.is_done.ensures in
    let labels : map string_bytes c.in_ok-labels.field-0.items ≡
    labels_in c.args.bytes.now (drop (prefix_len has_neither events) events) =
    rw left at c.in_ok-labels.ensures in
    found-following c.args.bytes.now events c.is_done.result _ _ done labels (ap (map string_bytes) c.new.ensures.items)
