use Rattle.std.proofs.Common.{◌≡◌, arith}
use Rattle.markdown_blocks.proofs.text_parts.or_read.Goals as goal

pub read_part-requires-clause-part : goal.read_part-requires-clause-part
read_part-requires-clause-part g c =
    let none : c.args.found.now.chunks ≡ 0 = omega (arith, c.if-found-gt0.false) in
    let next = c.requires.next none in
    rw (c.deref.ensures.value, c.in_ok-list_chunks.ensures, c.kind_of.ensures, (c.next.ensures next.place next.following next.are).0)
    next.at
