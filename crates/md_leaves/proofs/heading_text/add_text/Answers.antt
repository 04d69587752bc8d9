use Rattle.std.proofs.Common.{◌≡◌, ◌∙◌, ◌&&◌, ◌++◌, ℕ, Bool, List, [], Result, Ok, Err, ap, append_assoc, cond}
use Rattle.std.proofs.Common.{drop, false, true, length, refl, subst, sym, take}
use Rattle.std.specs.Prelude.{◌==◌, None, OnOk, Some}
use Rattle.std.proofs.lemmas.Bool.{and_parts, eqb-true}
use Rattle.std.proofs.lemmas.List.{take-append-drop}
use Rattle.md_engine.specs.declared.event.Event.{Event}
use Rattle.md_engine.specs.declared.event.Point.{Point}
use Rattle.md_engine.specs.declared.tokenizer.Tokenizer.{Tokenizer}
use Rattle.md_engine.specs.Place.{IsPlaced, first_point}
use Rattle.md_engine.specs.World.{World, world}
use Rattle.md_leaves.specs.Heading.{text_following}
use Rattle.md_leaves.specs.HeadingRuns.{Apart, chunk_unless_empty, line_runs, linked_data, text_events}
use Rattle.md_leaves.specs.OnLine.{IsOnLine}
use Rattle.md_leaves.proofs.OnLine.{on-following}
use Rattle.md_leaves.proofs.TextBegun.{first-placed, last-placed, text-on}
use Rattle.md_meaning.specs.Leaves.{heading_text}
use Rattle.md_meaning.specs.Lines.{without_ending}
use Rattle.md_events.specs.Events.Nested.{last_point}
use Rattle.md_events.specs.Events.Places.{past_text}
use Rattle.md_events.specs.WholeLine.{line_taken}
use Rattle.md_leaves.proofs.heading_text.add_text.Goals as goal

-- where the text began
begun-some : (x : Bool) (p from : Point) → Some from ≡ cond x (Some p) None → (x ≡ true) × (from ≡ p)
begun-some true p from e = (refl, cc)
begun-some false p from e = cc

abbrev last_of : Tokenizer → Point
last_of t = last_point first_point t.events.items

abbrev is_begun : Tokenizer → Bool
is_begun t = ((last_of t).vs == 0) && ((last_of t).index == t.scratch.start)

begun-at : (t : Tokenizer) (from : Point) → Some from ≡ cond (is_begun t) (Some (last_of t)) None →
    (is_begun t ≡ true) × (from ≡ last_of t)
begun-at t from e = begun-some (is_begun t) (last_of t) from e

-- it is a place of the text, a whole byte, and where the states held that it is
record IsBegun (t : Tokenizer) (from : Point) : Type 0 where
  placed : IsPlaced t.bytes.now from
  at : from.index ≡ t.scratch.start
  whole : from.vs ≡ 0

is-begun : (t : Tokenizer) (from : Point) → Some from ≡ cond (is_begun t) (Some (last_of t)) None → IsBegun t from
is-begun t from e =
    let begun = begun-at t from e in
    let parts = and_parts ((last_of t).vs == 0) ((last_of t).index == t.scratch.start) begun.0 in
    subst (IsBegun t) (sym begun.1)
    (record {
      placed =
          last-placed t.bytes.now t.events.items first_point t.sound.right
          (first-placed t.bytes.now t.point t.sound.placed);
      at = eqb-true (last_of t).index t.scratch.start parts.1;
      whole = eqb-true (last_of t).vs 0 parts.0;
    })

taken-on : (t : Tokenizer) (from : Point) (line : List ℕ) →
    Some from ≡ cond (is_begun t) (Some (last_of t)) None →
    line ≡ without_ending (line_taken t.bytes.now t.scratch t.point) → IsOnLine t.bytes.now line from
taken-on t from line e is =
    let begun = is-begun t from e in
    subst (λ (l : List ℕ). IsOnLine t.bytes.now l from) (sym is)
    (text-on t.bytes.now t.scratch from t.point begun.placed t.sound.placed begun.at)

-- the text and what is after it
in-two : (bytes line front back : List ℕ) (n : ℕ) (p : Point) → front ≡ take n line → back ≡ drop n line →
    IsOnLine bytes line p → IsOnLine bytes (front ++ back) p
in-two bytes line front back n p is following on =
    subst (λ (l : List ℕ). IsOnLine bytes l p)
    (sym
    (ap (λ (l : List ℕ). l ++ back) is ∙ ap (λ (l : List ℕ). take n line ++ l) following ∙ take-append-drop n line)) on

-- their events
text-is : (line front back text : List ℕ) (p q : Point) → text ≡ heading_text line →
    front ≡ take (length text) line → back ≡ drop (length text) line → length front ≡ length text →
    q ≡ past_text front p →
    text_events line p ≡ linked_data (chunk_unless_empty (length front) p q) ++ line_runs Apart back q
text-is line front back text p q is is_front is_back long end =
    let size = length (heading_text line) in
    let z = past_text (take size line) p in
    let same : size ≡ length text = ap length (sym is) in
    let there : z ≡ q = ap (λ (n : ℕ). past_text (take n line) p) same
    ∙ ap (λ (l : List ℕ). past_text l p) (sym is_front)
    ∙ sym end in
    ap (λ (n : ℕ). linked_data (chunk_unless_empty n p z) ++ line_runs Apart (drop size line) z) (same ∙ sym long)
    ∙ ap (λ (l : List ℕ). linked_data (chunk_unless_empty (length front) p z) ++ line_runs Apart l z)
    (ap (λ (n : ℕ). drop n line) same ∙ sym is_back)
    ∙ ap (λ (r : Point). linked_data (chunk_unless_empty (length front) p r) ++ line_runs Apart back r) there

map-ok : {A E P Q : Type 0} (r : Result A E) → (P → Q) → OnOk r P → OnOk r Q
map-ok (Ok x) f h = f h
map-ok (Err e) f h = h

pub text_taken-line-requires : goal.text_taken-line-requires
text_taken-line-requires c =
    let begun = is-begun c.args.tokenizer.now c.in-Some.from c.in-Some.ensures in
    record { placed = begun.placed; at = begun.at }

pub text_end-end-requires : goal.text_end-end-requires
text_end-end-requires c =
    let t = c.args.tokenizer.now in
    let line = c.text_taken-line.result.now in
    record {
      on =
          in-two t.bytes.now line c.split_at.result.0.now c.split_at.result.1.now (length c.heading_text.result.now)
          c.in-Some.from c.split_at.ensures.front c.split_at.ensures.back
          (taken-on t c.in-Some.from line c.in-Some.ensures c.text_taken-line.ensures);
      whole = (is-begun t c.in-Some.from c.in-Some.ensures).whole;
    }

pub add_data-requires-clause-from : goal.add_data-requires-clause-from
add_data-requires-clause-from c =
    (taken-on c.args.tokenizer.now c.in-Some.from c.text_taken-line.result.now c.in-Some.ensures
    c.text_taken-line.ensures).placed

-- the text ends at a place on the line
following : (t : Tokenizer) (from q : Point) (line front back : List ℕ) (n : ℕ) →
    Some from ≡ cond (is_begun t) (Some (last_of t)) None →
    line ≡ without_ending (line_taken t.bytes.now t.scratch t.point) → front ≡ take n line → back ≡ drop n line →
    q ≡ past_text front from → IsOnLine t.bytes.now back q
following t from q line front back n e is is_front is_back end =
    subst (IsOnLine t.bytes.now back) (sym end)
    (on-following t.bytes.now front back from
    (in-two t.bytes.now line front back n from is_front is_back (taken-on t from line e is)))

pub add_data-requires-clause-end : goal.add_data-requires-clause-end
add_data-requires-clause-end c =
    (following c.args.tokenizer.now c.in-Some.from c.text_end-end.result c.text_taken-line.result.now
    c.split_at.result.0.now c.split_at.result.1.now (length c.heading_text.result.now) c.in-Some.ensures
    c.text_taken-line.ensures c.split_at.ensures.front c.split_at.ensures.back c.text_end-end.ensures).placed

pub add_runs-requires : goal.add_runs-requires
add_runs-requires c =
    let t = c.args.tokenizer.now in
    subst (λ (l : List ℕ). IsOnLine l c.split_at.result.1.now c.text_end-end.result)
    (sym (ap (λ (x : World). x.setting.bytes) c.in_ok-add_data.ensures.world))
    (following t c.in-Some.from c.text_end-end.result c.text_taken-line.result.now c.split_at.result.0.now
    c.split_at.result.1.now (length c.heading_text.result.now) c.in-Some.ensures c.text_taken-line.ensures
    c.split_at.ensures.front c.split_at.ensures.back c.text_end-end.ensures)

pub returns-clause-world : goal.returns-clause-world
returns-clause-world c =
    let t = c.args.tokenizer.now in
    let w = world t in
    let line = c.text_taken-line.result.now in
    let front = c.split_at.result.0.now in
    let back = c.split_at.result.1.now in
    let q = c.text_end-end.result in
    let from = c.in-Some.from in
    let begun = begun-at t from c.in-Some.ensures in
    let text_part : List Event = linked_data (chunk_unless_empty (length front) from q) in
    let runs : List Event = line_runs Apart back q in
    let taken : List ℕ = line_taken w.setting.bytes w.scratch w.point in
    let mid : world c.add_data.new.tokenizer ≡ record w { events = w.events ++ text_part } =
    c.in_ok-add_data.ensures.world in
    let text : text_following w.events w.scratch taken ≡ text_part ++ runs =
    ap (λ (x : Bool). cond x (text_events (without_ending taken) (last_of t)) []) begun.0
    ∙ ap (text_events (without_ending taken)) (sym begun.1)
    ∙ ap (λ (l : List ℕ). text_events l from) (sym c.text_taken-line.ensures)
    ∙ text-is line front back c.heading_text.result.now from q c.heading_text.ensures c.split_at.ensures.front
    c.split_at.ensures.back c.split_at.ensures.front_len c.text_end-end.ensures in
    map-ok c.add_runs.result
    (λ new.
    new
    ∙ ap (λ (x : World). record x { events = x.events ++ runs }) mid
    ∙ ap (λ (es : List Event). record w { events = es })
    (append_assoc w.events text_part runs ∙ ap (λ (es : List Event). w.events ++ es) (sym text)))
    c.add_runs.ensures.world
