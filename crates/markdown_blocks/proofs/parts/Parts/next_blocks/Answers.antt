use Rattle.std.proofs.Common.{◌≡◌, [], arith, rules}
use Rattle.markdown_blocks.proofs.PartFront.{unread-laid, unread-lines, unread-some}
use Rattle.markdown_blocks.proofs.parts.Parts.next_blocks.Goals as goal

pub returns-clause-lines : goal.returns-clause-lines
returns-clause-lines c =
    let none : c.in_ok-front.front.items ≡ [] = search rules in
    unread-lines c.args.self.now.options.now c.args.self.now.bytes.now c.args.self.now.begun c.args.self.now.start
    c.in_ok-front.front.items c.in_ok-front.start c.in-Some.start c.in_ok-front.ensures none c.in-Some.is
    c.in_ok-part.part c.in_ok-part.next (omega (arith, c.args.self.now.small)) c.in_ok-part.ensures.part

pub returns-clause-some : goal.returns-clause-some
returns-clause-some c =
    let none : c.in_ok-front.front.items ≡ [] = search rules in
    unread-some c.args.self.now.options.now c.args.self.now.bytes.now c.args.self.now.begun c.args.self.now.start
    c.in_ok-front.front.items c.in_ok-front.start c.in-Some.start c.in_ok-front.ensures none c.in-Some.is
    c.in_ok-part.part c.in_ok-part.next (omega (arith, c.args.self.now.small)) c.in_ok-part.ensures.part

pub returns-clause-laid : goal.returns-clause-laid
returns-clause-laid c =
    let none : c.in_ok-front.front.items ≡ [] = search rules in
    unread-laid c.args.self.now.options.now c.args.self.now.bytes.now c.args.self.now.begun c.args.self.now.start
    c.in_ok-front.front.items c.in_ok-front.start c.in-Some.start c.in_ok-front.ensures none c.in-Some.is
    c.in_ok-part.part c.in_ok-part.next (omega (arith, c.args.self.now.small)) c.in_ok-part.ensures.part
