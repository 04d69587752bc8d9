use Rattle.std.proofs.Common.{◌≡◌, [], rules}
use Rattle.markdown_blocks.proofs.PartFront.{next-laid}
use Rattle.markdown_blocks.proofs.parts.Parts.next.Goals as goal

pub returns-clause-laid : goal.returns-clause-laid
returns-clause-laid c =
    let none : c.in_ok-front.front.items ≡ [] = search rules in
    next-laid c.args.self.now.options.now c.args.self.now.bytes.now c.args.self.now.begun c.args.self.now.start
    c.in_ok-front.front.items c.in_ok-front.start c.in-Some.start c.in_ok-front.ensures none c.in-Some.is
    c.in_ok-part.part c.in_ok-part.next c.in_ok-part.ensures.part
