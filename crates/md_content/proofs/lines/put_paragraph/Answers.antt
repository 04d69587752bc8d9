use Rattle.std.proofs.Common.{◌≡◌, ◌+◌, ◌-◌, ◌<◌, ◌++◌, ◌∙◌, ◌∷◌, ℕ, List, [], ap, arith, drop, length, length-drop}
use Rattle.std.proofs.Common.{subst, sym, take}
use Rattle.std.specs.List.{prefix_len}
use Rattle.std.specs.Prelude.{None, OnOk}
use Rattle.std.specs.declared.result.Result.{Result}
use Rattle.std.specs.declared.result.Result.TheVariants as result
use Rattle.md_engine.specs.declared.event.Event.{Event}
use Rattle.md_engine.specs.declared.event.Kind.TheVariants.{Enter}
use Rattle.md_engine.specs.declared.event.Name.TheVariants.{Frontmatter, Paragraph}
use Rattle.md_content.specs.Joined.{joined_with}
use Rattle.md_content.specs.Lines.{lines_from}
use Rattle.md_content.specs.ParagraphLines.{GivesParagraph, HasLines, is_unlinked, past_prefixes}
use Rattle.md_content.specs.WholeLines.{lines_of}
use Rattle.md_content.proofs.ParagraphLines.{HasFurther, begins, fewer-left, further-has, given-end, given-first}
use Rattle.md_content.proofs.ParagraphLines.{given-more, has-further, paragraph-all, paragraph-first, paragraph-more}
use Rattle.md_content.proofs.ParagraphLines.{unlinked-prefixes}
use Rattle.md_content.proofs.lines.put_paragraph.Goals as goal
use Rattle.md_events.specs.declared.inline.Chunk.{Chunk}
use Rattle.md_events.specs.Events.Nested.{enter, exit}
use Rattle.md_events.specs.Rewritten.{given_of, held_of, left_of, written_of}
use Rattle.md_events.specs.Substituted.{is_plain_prefix}

-- what indexing gives past the end of a list
abbrev unset : Event
unset = record {
  kind = Enter;
  name = Frontmatter;
  point = record { line = 0; column = 0; index = 0; vs = 0 };
  link = None;
}

pub loop-more-init : goal.loop-more-init
loop-more-init c =
    let old = c.args.all.now in
    let all = c.put_line.new.all in
    let rest : List Event = left_of old in
    let line : Chunk = c.take_line-line.result in
    let taken = c.take_line-line.ensures in
    let begun = c.in_ok-put_begin.ensures in
    let put = c.in_ok-put_line.ensures in
    let left : left_of all ≡ left_of c.take_line-line.new.all =
    c.put_line.ensures.left ∙ c.put_begin.ensures.left in
    let held : held_of all ≡ [] =
    c.put_line.ensures.held ∙ c.put_begin.ensures.held ∙ taken.held in
    let next : left_of all ≡ drop (joined_with (drop 1 rest) + 2) rest = left ∙ taken.left in
    let lines : lines_from rest ≡ line ∷ lines_from (left_of all) =
    taken.line ∙ ap (λ (l : List Event). line ∷ lines_from l) (sym left) in
    let given : given_of all ≡ given_of old ++ enter Paragraph line.first ∷ lines_of (line ∷ []) =
    given-first (written_of c.take_line-line.new.all) (written_of c.put_begin.new.all) (written_of all)
    (held_of all) (given_of old) (lines_of (line ∷ [])) (enter Paragraph line.first) taken.written begun.written
    put.written held in
    record {
      lines = subst (HasFurther c.args.further) (sym next) (has-further c.args.further rest c.requires.lines);
      held = held;
      fewer =
          subst (λ (l : List Event). length l < length rest) (sym next)
          (fewer-left rest (joined_with (drop 1 rest)) (begins c.args.further rest c.requires.lines));
      following = λ bytes options events is reached.
          paragraph-first bytes options events (given_of old) rest (given_of all) (left_of all) c.args.further line
          unset is reached lines next given;
    }

pub loop-more-preserved : goal.loop-more-preserved
loop-more-preserved c =
    let inv = c.loop-more.invariant in
    let old = c.loop-more.all in
    let on = c.hold_many.new.self in
    let all = c.put_line-in-loop-more.new.all in
    let rest : List Event = left_of old in
    let now : List Event = past_prefixes rest in
    let n : ℕ = prefix_len is_plain_prefix rest in
    let more : ℕ = c.loop-more.more - 1 in
    let line : Chunk = c.take_line-line-in-loop-more.result in
    let taken = c.take_line-line-in-loop-more.ensures in
    let has : HasLines more now = further-has c.loop-more.more rest c.loop-more-test.true inv.lines in
    let many : c.unlinked-many.result ≡ n =
    c.unlinked-many.ensures.value ∙ ap (prefix_len is_unlinked) c.left.ensures
    ∙ unlinked-prefixes rest (begins more now has) in
    let now_is : left_of on ≡ now = c.hold_many.ensures.left ∙ ap (λ (k : ℕ). drop k rest) many in
    let left : left_of all ≡ left_of c.take_line-line-in-loop-more.new.all = c.put_line-in-loop-more.ensures.left in
    let next : left_of all ≡ drop (joined_with (drop 1 now) + 2) now =
    left ∙ taken.left ∙ ap (λ (l : List Event). drop (joined_with (drop 1 l) + 2) l) now_is in
    let lines : lines_from now ≡ line ∷ lines_from (left_of all) =
    ap lines_from (sym now_is) ∙ taken.line ∙ ap (λ (l : List Event). line ∷ lines_from l) (sym left) in
    let held : held_of all ≡ [] = c.put_line-in-loop-more.ensures.held ∙ taken.held in
    let given : given_of all ≡ (given_of old ++ take n rest) ++ lines_of (line ∷ []) =
    given-more (written_of old) (held_of old) (written_of on) (held_of on)
    (written_of c.take_line-line-in-loop-more.new.all) (written_of all) (held_of all) (take n rest)
    (lines_of (line ∷ [])) c.hold_many.ensures.written
    (c.hold_many.ensures.held ∙ ap (λ (k : ℕ). held_of old ++ take k rest) many) taken.written
    c.in_ok-put_line-2.ensures.written held in
    record {
      lines = subst (HasFurther more) (sym next) (has-further more now has);
      held = held;
      fewer =
          let size : length (left_of all) < length now =
          subst (λ (l : List Event). length l < length now) (sym next)
          (fewer-left now (joined_with (drop 1 now)) (begins more now has)) in
          omega (arith, size, length-drop n rest, inv.fewer);
      following = λ bytes options events is reached.
          paragraph-more bytes options events (given_of old) rest (given_of all) (left_of all) c.loop-more.line.after
          more line unset (inv.following bytes options events is reached) has lines next given;
    }

pub take_line-line-requires-in-loop-more : goal.take_line-line-requires-in-loop-more
take_line-line-requires-in-loop-more c =
    let rest : List Event = left_of c.loop-more.all in
    let now : List Event = past_prefixes rest in
    let more : ℕ = c.loop-more.more - 1 in
    let has : HasLines more now = further-has c.loop-more.more rest c.loop-more-test.true c.loop-more.invariant.lines in
    let many : c.unlinked-many.result ≡ prefix_len is_plain_prefix rest =
    c.unlinked-many.ensures.value ∙ ap (prefix_len is_unlinked) c.left.ensures
    ∙ unlinked-prefixes rest (begins more now has) in
    let now_is : left_of c.hold_many.new.self ≡ now =
    c.hold_many.ensures.left ∙ ap (λ (k : ℕ). drop k rest) many in
    subst (HasLines more) (sym now_is) has

pub returns-clause-given : goal.returns-clause-given
returns-clause-given c =
    let inv = c.loop-more.invariant in
    let old = c.loop-more.all in
    let all = c.put_end.new.all in
    let after = c.loop-more.line.after in
    let none : c.loop-more.more ≡ 0 = omega arith in
    let ended : lines_from (left_of old) ≡ [] = subst (λ (n : ℕ). HasFurther n (left_of old)) none inv.lines in
    on-ok c.put_end.result (written_of all ≡ written_of old ++ exit Paragraph after ∷ [])
    (GivesParagraph c.args.further (given_of c.args.all.now) (left_of c.args.all.now) (given_of all) (left_of all))
    (λ put bytes options events is reached.
    paragraph-all bytes options events (given_of old) (left_of old) (given_of all) (left_of all) after
    (inv.following bytes options events is reached) ended c.put_end.ensures.left
    (given-end (written_of old) (held_of old) (written_of all) (held_of all) (exit Paragraph after) put
    c.put_end.ensures.held inv.held)) c.put_end.ensures.written
  where
    on-ok : {T E : Type 0} → (x : Result T E) (P Q : Type 0) → (P → Q) → OnOk x P → OnOk x Q
    on-ok (result.Ok v) P Q f h = f h
    on-ok (result.Err v) P Q f h = h
