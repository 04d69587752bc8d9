use Rattle.std.proofs.Common.{◌≡◌, string_bytes}
use Rattle.std.proofs.lemmas.Result.{IfOk-weaker}
use Rattle.md_meaning.specs.Wrapped.{IsItemOf, itemised}
use Rattle.md_meaning.proofs.ListLaw.{item-is}
use Rattle.md_wrap.proofs.wrap.item.Goals as goal

pub returns : goal.returns
returns c =
    IfOk-weaker c.prefixed.result (λ item. string_bytes item ≡ itemised c.args.value.now)
    (λ item. IsItemOf c.args.options.now c.args.value.now (string_bytes item))
    (λ item is. item-is c.args.options.now c.args.value.now (string_bytes item) is) c.prefixed.ensures
