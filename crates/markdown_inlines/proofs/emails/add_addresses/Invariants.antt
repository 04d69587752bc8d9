use Rattle.std.proofs.Common.{◌≡◌, ◌++◌, ◌-◌, List, length}
use Rattle.md_inline_events.specs.declared.token.Token.{Token}
use Rattle.markdown_inlines.specs.Added.{all_tokens}
use Rattle.markdown_inlines.proofs.QuietLemmas.{emails_from}
use Rattle.markdown_inlines.proofs.emails.add_addresses.Given as goal

abbrev pub invariant-loop-byte : goal.invariant-loop-byte
invariant-loop-byte l =
    (rest : List Token) → all_tokens l.joined (emails_from l.text l.at ++ rest) ≡
    all_tokens l.initial.joined (emails_from l.text l.fn.start ++ rest)

abbrev pub decreases-loop-byte : goal.decreases-loop-byte
decreases-loop-byte l = length l.text - l.at
