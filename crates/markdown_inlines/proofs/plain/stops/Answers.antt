use Rattle.std.proofs.Common.{arith, refl}
use Rattle.std.specs.Prelude.{◌==◌, ◌&&◌, not, false}
use Rattle.std.proofs.lemmas.Simd.{zip2_splat}
use Rattle.markdown_inlines.specs.Plain.{is_plain}
use Rattle.markdown_inlines.proofs.LaneLemmas.{either, hit, masked}
use Rattle.markdown_inlines.proofs.plain.stops.Goals as goal

pub returns : goal.returns
returns c =
    let v = c.args.bytes in
    let long = c.fits-bytes.0 in
    masked _ (λ b. not (not (b == 10) && is_plain false b)) v _ (omega arith) c.fits-bytes.1
    (either _ _ v (either _ _ v (either _ _ v (either _ _ v (either _ _ v (either _ _ v (either _ _ v (either _ _ v (either _ _ v (either _ _ v (either _ _ v (zip2_splat hit v 16 10 long) (zip2_splat hit v 16 33 long)) (zip2_splat hit v 16 36 long)) (zip2_splat hit v 16 38 long)) (zip2_splat hit v 16 42 long)) (zip2_splat hit v 16 60 long)) (zip2_splat hit v 16 91 long)) (zip2_splat hit v 16 92 long)) (zip2_splat hit v 16 93 long)) (zip2_splat hit v 16 95 long)) (zip2_splat hit v 16 96 long)) (zip2_splat hit v 16 126 long))
    refl
