use Rattle.std.proofs.Common.{◌≡◌, ℕ, ◌≤◌, List, [], ◌++◌, length, ap, sym, ◌∙◌, append_assoc, arith}
use Rattle.std.proofs.lemmas.List.{append-nil}
use Rattle.md_engine.specs.declared.event.Event.{Event}
use Rattle.md_events.specs.Events.Inline.{pair_unless_empty}
use Rattle.md_inline_events.specs.Cursor.{before_piece, entering, first_front, marks_left, passed}
use Rattle.md_inline_events.specs.Marks.{Front, Mark, entered, front_events, front_from, front_name}
use Rattle.md_inline_events.specs.SidesOf.{cursor_marks}
use Rattle.md_inline_events.specs.declared.token.Token.{Token}
use Rattle.md_inline_events.proofs.CursorLemmas.{Begins, begins_here, no_piece}
use Rattle.md_inline_events.proofs.cursor.push_front.Goals as goal

none-left : (left : ℕ) (ts : List Token) → left ≤ 0 → length ts ≤ before_piece ts → marks_left left ts ≡ []
none-left left ts z h =
    let zero : left ≡ 0 = omega (arith, z) in
    ap (λ (l : ℕ). marks_left l ts) zero ∙ no_piece [] ts h

pub returns-then-len-cursor-clause-events : goal.returns-then-len-cursor-clause-events
returns-then-len-cursor-clause-events c =
    let none : cursor_marks c.args.cursor ≡ [] = none-left c.args.cursor.left c.args.cursor.tokens.now
    (omega (arith, c.if-cursor-gt0.false)) (omega (arith, c.if-len-cursor.true, c.opening_len-len.ensures)) in
    sym (append-nil c.args.events.now.items)
    ∙ ap (λ (ms : List Mark).
    c.args.events.now.items ++ front_events (first_front ms) c.args.cursor.name c.args.from c.args.at) (sym none)

pub returns-then-len-cursor-clause-marks : goal.returns-then-len-cursor-clause-marks
returns-then-len-cursor-clause-marks c =
    let none : cursor_marks c.args.cursor ≡ [] = none-left c.args.cursor.left c.args.cursor.tokens.now
    (omega (arith, c.if-cursor-gt0.false)) (omega (arith, c.if-len-cursor.true, c.opening_len-len.ensures)) in
    ap passed (sym none)

pub returns-then-len-cursor-clause-name : goal.returns-then-len-cursor-clause-name
returns-then-len-cursor-clause-name c =
    let none : cursor_marks c.args.cursor ≡ [] = none-left c.args.cursor.left c.args.cursor.tokens.now
    (omega (arith, c.if-cursor-gt0.false)) (omega (arith, c.if-len-cursor.true, c.opening_len-len.ensures)) in
    ap (λ (ms : List Mark). front_name (first_front ms) c.args.cursor.name) (sym none)

pub returns-then-len-cursor-clause-from : goal.returns-then-len-cursor-clause-from
returns-then-len-cursor-clause-from c =
    let none : cursor_marks c.args.cursor ≡ [] = none-left c.args.cursor.left c.args.cursor.tokens.now
    (omega (arith, c.if-cursor-gt0.false)) (omega (arith, c.if-len-cursor.true, c.opening_len-len.ensures)) in
    ap (λ (ms : List Mark). front_from (first_front ms) c.args.from c.args.at) (sym none)

pub returns-clause-events : goal.returns-clause-events
returns-clause-events c =
    let b : Begins c.args.cursor.left c.args.cursor.tokens.now c.split_at.result.0.now c.split_at-2.result.1.now
    c.piece_of-name.result =
    begins_here c.args.cursor.left c.args.cursor.tokens.now c.split_at.result.1.now c.split_at.result.0.now
    c.split_at-2.result.1.now c.opening_len-len.result _ c.piece_of-name.result (omega (arith, c.if-cursor-gt0.false))
    c.opening_len-len.ensures (omega (arith, c.if-len-cursor.false)) c.split_at.ensures.back c.split_at.ensures.front
    c.split_at-2.ensures.back c.piece_of-name.ensures in
    let opens : List Event = entered (entering c.split_at.result.0.now) c.args.at in
    let before : List Event = pair_unless_empty c.args.cursor.name c.args.from c.args.at in
    c.in_ok-enter_all.ensures
    ∙ ap (λ (l : List Event). l ++ opens) c.in_ok-push_unless_empty.ensures
    ∙ append_assoc c.args.events.now.items before opens
    ∙ ap (λ (f : Front). c.args.events.now.items ++ front_events f c.args.cursor.name c.args.from c.args.at) (sym
    b.front)

pub returns-clause-marks : goal.returns-clause-marks
returns-clause-marks c =
    let b : Begins c.args.cursor.left c.args.cursor.tokens.now c.split_at.result.0.now c.split_at-2.result.1.now
    c.piece_of-name.result =
    begins_here c.args.cursor.left c.args.cursor.tokens.now c.split_at.result.1.now c.split_at.result.0.now
    c.split_at-2.result.1.now c.opening_len-len.result _ c.piece_of-name.result (omega (arith, c.if-cursor-gt0.false))
    c.opening_len-len.ensures (omega (arith, c.if-len-cursor.false)) c.split_at.ensures.back c.split_at.ensures.front
    c.split_at-2.ensures.back c.piece_of-name.ensures in
    b.marks

pub returns-clause-name : goal.returns-clause-name
returns-clause-name c =
    let b : Begins c.args.cursor.left c.args.cursor.tokens.now c.split_at.result.0.now c.split_at-2.result.1.now
    c.piece_of-name.result =
    begins_here c.args.cursor.left c.args.cursor.tokens.now c.split_at.result.1.now c.split_at.result.0.now
    c.split_at-2.result.1.now c.opening_len-len.result _ c.piece_of-name.result (omega (arith, c.if-cursor-gt0.false))
    c.opening_len-len.ensures (omega (arith, c.if-len-cursor.false)) c.split_at.ensures.back c.split_at.ensures.front
    c.split_at-2.ensures.back c.piece_of-name.ensures in
    ap (λ (f : Front). front_name f c.args.cursor.name) (sym b.front)

pub returns-clause-from : goal.returns-clause-from
returns-clause-from c =
    let b : Begins c.args.cursor.left c.args.cursor.tokens.now c.split_at.result.0.now c.split_at-2.result.1.now
    c.piece_of-name.result =
    begins_here c.args.cursor.left c.args.cursor.tokens.now c.split_at.result.1.now c.split_at.result.0.now
    c.split_at-2.result.1.now c.opening_len-len.result _ c.piece_of-name.result (omega (arith, c.if-cursor-gt0.false))
    c.opening_len-len.ensures (omega (arith, c.if-len-cursor.false)) c.split_at.ensures.back c.split_at.ensures.front
    c.split_at-2.ensures.back c.piece_of-name.ensures in
    ap (λ (f : Front). front_from f c.args.from c.args.at) (sym b.front)

pub returns-clause-within : goal.returns-clause-within
returns-clause-within c none =
    let b : Begins c.args.cursor.left c.args.cursor.tokens.now c.split_at.result.0.now c.split_at-2.result.1.now
    c.piece_of-name.result =
    begins_here c.args.cursor.left c.args.cursor.tokens.now c.split_at.result.1.now c.split_at.result.0.now
    c.split_at-2.result.1.now c.opening_len-len.result _ c.piece_of-name.result (omega (arith, c.if-cursor-gt0.false))
    c.opening_len-len.ensures (omega (arith, c.if-len-cursor.false)) c.split_at.ensures.back c.split_at.ensures.front
    c.split_at-2.ensures.back c.piece_of-name.ensures in
    absurd (omega (arith, b.some, none))
