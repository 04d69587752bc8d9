-- The definitions of a text, read apart.
use Rattle.std.proofs.Common.{◌≡◌, ℕ, zero, suc, ◌<◌, ◌+◌, ◌-◌, Bool, true, false, cond, not, List, [], ◌∷◌, ◌++◌}
use Rattle.std.proofs.Common.{length, get_or, take, drop, append-nil, append_assoc, refl, ap, sym, ◌∙◌, subst, arith}
use Rattle.std.specs.Prelude.{◌||◌}
use Rattle.std.specs.List.{prefix_len}
use Rattle.std.proofs.lemmas.List.{drop_more, take_rest}
use Rattle.md_engine.specs.declared.event.Event.{Event}
use Rattle.md_events.specs.Events.Inline.{Part}
use Rattle.md_events.specs.Events.Tiles.{part_at, part_kind}
use Rattle.markdown_blocks.specs.Definitions.{AreDefinitions, AreRead, marked}
use Rattle.markdown_blocks.specs.Definitions.{is_of_definition, is_outside, is_within_definition}

-- the same after an event, by whether it is of a definition
abbrev DefinitionsBy : (Part → List Event → Type 0) → Event → List Event → List Event → Bool → Type 0
DefinitionsBy reads e es out x = elim x [
  | true ↦
      (answer rest : List Event) × (read : AreRead reads (part_at e.kind (part_kind e.name) es) answer)
      × (is : out ≡ e ∷ answer ++ rest) × AreDefinitions reads es rest
  | false ↦ AreDefinitions reads es out
]

-- the first of some items, and those after it
first-is : {X : Type 0} (left : List X) (d : X) → 0 < length left →
    left ≡ get_or left 0 d ∷ take (length left - 1) (drop 1 left)
first-is [] d some = absurd (omega arith)
first-is (e ∷ es) d some = ap (λ (l : List _). e ∷ l) (sym (take_rest (e ∷ es) 1))

-- an item of a list, and those after it
at-is : (blocks : List Event) (n : ℕ) (e d : Event) (es : List Event) → drop n blocks ≡ e ∷ es →
    (n < length blocks) × (get_or blocks n d ≡ e) × (drop (n + 1) blocks ≡ es)
at-is [] zero e d es is = absurd (omega (arith, ap (λ (l : List Event). length l) is))
at-is [] (suc n) e d es is = absurd (omega (arith, ap (λ (l : List Event). length l) is))
at-is (x ∷ xs) zero e d es is =
    (omega arith, ap (λ (l : List Event). get_or l 0 d) is, ap (λ (l : List Event). drop 1 l) is)
at-is (x ∷ xs) (suc n) e d es is =
    let next = at-is xs n e d es is in
    let more : suc (n + 1) ≡ suc n + 1 = omega arith in
    (omega (arith, next.0), next.1, subst (λ (k : ℕ). drop k (x ∷ xs) ≡ es) more next.2)

-- where the first of some definitions is, and where the others are
record IsMark (blocks : List Event) (n m : ℕ) (others : List ℕ) (d : Event) : Type 1 where
  pub within : m < length blocks
  pub of : is_of_definition (get_or blocks m d).name ≡ true
  pub further : others ≡ marked (m + 1) (drop (m + 1) blocks)
  pub leads : (reads : Part → List Event → Type 0) (out : List Event) → AreDefinitions reads (drop m blocks) out →
      AreDefinitions reads (drop n blocks) out

mark-next : (blocks es : List Event) (n m : ℕ) (others : List ℕ) (d : Event) → drop n blocks ≡ es →
    marked n es ≡ m ∷ others → IsMark blocks n m others d
mark-next blocks [] n m others d left is = absurd (omega (arith, ap (λ (l : List ℕ). length l) is))
mark-next blocks (e ∷ es) n m others d left is =
    go (is_of_definition e.name) refl (λ marks. mark-next blocks es (n + 1) m others d next.2 marks)
  where
    next : (n < length blocks) × (get_or blocks n d ≡ e) × (drop (n + 1) blocks ≡ es)
    next = at-is blocks n e d es left

    go : (x : Bool) → is_of_definition e.name ≡ x → (marked (n + 1) es ≡ m ∷ others → IsMark blocks (n + 1) m others d) →
        IsMark blocks n m others d
    go true of following =
        let marks : n ∷ marked (n + 1) es ≡ m ∷ others =
        sym (ap (λ (x : Bool). cond x (n ∷ marked (n + 1) es) (marked (n + 1) es)) of) ∙ is in
        let here : n ≡ m = ap (λ (l : List ℕ). get_or l 0 0) marks in
        subst (λ (k : ℕ). IsMark blocks n k others d) here
        (record {
          within = next.0;
          of = ap (λ (b : Event). is_of_definition b.name) next.1 ∙ of;
          further =
              sym (ap (λ (l : List ℕ). drop 1 l) marks) ∙ ap (λ (l : List Event). marked (n + 1) l) (sym next.2);
          leads = λ reads out definitions. definitions;
        })
    go false other following =
        let marks : marked (n + 1) es ≡ m ∷ others =
        sym (ap (λ (x : Bool). cond x (n ∷ marked (n + 1) es) (marked (n + 1) es)) other) ∙ is in
        let mark : IsMark blocks (n + 1) m others d = following marks in
        record {
          within = mark.within;
          of = mark.of;
          further = mark.further;
          leads = λ reads out definitions.
              subst (λ (l : List Event). AreDefinitions reads l out) (sym left)
              (subst (λ (x : Bool). DefinitionsBy reads e es out x) (sym other)
              (subst (λ (l : List Event). AreDefinitions reads l out) next.2 (mark.leads reads out definitions)));
        }

-- What is read of the definitions that are left leads to what is read of all.
pub record ReadsFrom (reads : Part → List Event → Type 0) (blocks : List Event) (left : List ℕ) (all : List Event) :
    Type 0
  where
    pub before : ℕ
    pub marks : left ≡ marked before (drop before blocks)
    pub leads : (out : List Event) → AreDefinitions reads (drop before blocks) out →
        AreDefinitions reads blocks (all ++ out)

pub reads-first : (reads : Part → List Event → Type 0) (blocks all : List Event) (left : List ℕ) →
    left ≡ marked 0 blocks → all ≡ [] → ReadsFrom reads blocks left all
reads-first reads blocks all left marks none = record { before = 0; marks = marks; leads = rw none (λ out d. d) }

mark-first : (reads : Part → List Event → Type 0) (blocks all : List Event) (left : List ℕ) (d : Event) →
    0 < length left → (from : ReadsFrom reads blocks left all) →
    IsMark blocks from.before (get_or left 0 0) (take (length left - 1) (drop 1 left)) d
mark-first reads blocks all left d some from =
    mark-next blocks (drop from.before blocks) from.before (get_or left 0 0) (take (length left - 1) (drop 1 left)) d refl
    (sym from.marks ∙ first-is left 0 some)

-- the next mark is one of an event of a definition
pub mark-within : (reads : Part → List Event → Type 0) (blocks all : List Event) (left : List ℕ) (d : Event) →
    0 < length left → ReadsFrom reads blocks left all → get_or left 0 0 < length blocks
mark-within reads blocks all left d some from = (mark-first reads blocks all left d some from).within

pub mark-of : (reads : Part → List Event → Type 0) (blocks all : List Event) (left : List ℕ) (d : Event) →
    0 < length left → ReadsFrom reads blocks left all →
    is_of_definition (get_or blocks (get_or left 0 0) d).name ≡ true
mark-of reads blocks all left d some from = (mark-first reads blocks all left d some from).of

-- an event is among all
pub among : (blocks : List Event) (m : ℕ) (d : Event) → m < length blocks →
    blocks ≡ take m blocks ++ get_or blocks m d ∷ drop (m + 1) blocks
among blocks m d within = split m blocks ∙ ap (λ (l : List Event). take m blocks ++ l) (drop_more blocks m d within)
  where
    split : (m : ℕ) (l : List Event) → l ≡ take m l ++ drop m l
    split zero l = refl
    split (suc m) [] = refl
    split (suc m) (x ∷ l) = ap (λ (t : List Event). x ∷ t) (split m l)

-- an event of a definition
pub reads-more : (reads : Part → List Event → Type 0) (blocks all new answer : List Event) (left : List ℕ) (d : Event) →
    0 < length left →
    let m : ℕ = get_or left 0 0 in
    AreRead reads (part_at (get_or blocks m d).kind (part_kind (get_or blocks m d).name) (drop (m + 1) blocks)) answer →
    new ≡ (all ++ get_or blocks m d ∷ []) ++ answer → ReadsFrom reads blocks left all →
    ReadsFrom reads blocks (take (length left - 1) (drop 1 left)) new
reads-more reads blocks all new answer left d some read is from = record {
  before = m + 1;
  marks = mark.further;
  leads = λ out definitions.
      subst (AreDefinitions reads blocks)
      (sym
      (ap (λ (l : List Event). l ++ out) is ∙ append_assoc (all ++ e ∷ []) answer out
      ∙ append_assoc all (e ∷ []) (answer ++ out)))
      (from.leads (e ∷ answer ++ out)
      (mark.leads reads (e ∷ answer ++ out)
      (subst (λ (l : List Event). AreDefinitions reads l (e ∷ answer ++ out)) (sym (drop_more blocks m d mark.within))
      (here out definitions))));
}
  where
    m : ℕ
    m = get_or left 0 0

    e : Event
    e = get_or blocks m d

    mark : IsMark blocks from.before m (take (length left - 1) (drop 1 left)) d
    mark = mark-first reads blocks all left d some from

    here : (out : List Event) → AreDefinitions reads (drop (m + 1) blocks) out →
        AreDefinitions reads (e ∷ drop (m + 1) blocks) (e ∷ answer ++ out)
    here out definitions =
        subst (λ (x : Bool). DefinitionsBy reads e (drop (m + 1) blocks) (e ∷ answer ++ out) x) (sym mark.of)
        (answer, out, read, refl, definitions)

-- all is read
pub reads-all : (reads : Part → List Event → Type 0) (blocks all : List Event) (left : List ℕ) → length left ≡ 0 →
    ReadsFrom reads blocks left all → AreDefinitions reads blocks all
reads-all reads blocks all [] none from =
    subst (AreDefinitions reads blocks) (append-nil all)
    (from.leads [] (no-marks (drop from.before blocks) from.before (sym from.marks)))
  where
    no-marks : (es : List Event) (n : ℕ) → marked n es ≡ [] → AreDefinitions reads es []
    no-marks [] n is = refl
    no-marks (e ∷ es) n is = go (is_of_definition e.name) refl (λ marks. no-marks es (n + 1) marks)
      where
        go : (x : Bool) → is_of_definition e.name ≡ x → (marked (n + 1) es ≡ [] → AreDefinitions reads es []) →
            AreDefinitions reads (e ∷ es) []
        go true of following =
            let marks : n ∷ marked (n + 1) es ≡ [] =
            sym (ap (λ (x : Bool). cond x (n ∷ marked (n + 1) es) (marked (n + 1) es)) of) ∙ is in
            absurd (omega (arith, ap (λ (l : List ℕ). length l) marks))
        go false other following =
            subst (λ (x : Bool). DefinitionsBy reads e es [] x) (sym other)
            (following (sym (ap (λ (x : Bool). cond x (n ∷ marked (n + 1) es) (marked (n + 1) es)) other) ∙ is))
reads-all reads blocks all (m ∷ left) none from = absurd (omega arith)

-- Events of no definition have no mark.

drop-none : (n : ℕ) → drop {A = Event} n [] ≡ []
drop-none zero = refl
drop-none (suc n) = refl

drops : (n k : ℕ) (es : List Event) → drop n (drop k es) ≡ drop (k + n) es
drops n zero es = let e : n ≡ 0 + n = omega arith in ap (λ (z : ℕ). drop z es) e
drops n (suc k) [] = drop-none n ∙ sym (drop-none (suc k + n))
drops n (suc k) (e ∷ es) =
    let sum : suc (k + n) ≡ suc k + n = omega arith in
    drops n k es ∙ ap (λ (z : ℕ). drop z (e ∷ es)) sum

first-false : (a b : Bool) → (a || b) ≡ false → a ≡ false
first-false false b is = refl
first-false true b is = is

unmarked : (es : List Event) (n : ℕ) →
    let many = prefix_len is_outside es in
    marked n es ≡ marked (n + many) (drop many es)
unmarked [] n = let sum : n ≡ n + 0 = omega arith in ap (λ (k : ℕ). marked k []) sum
unmarked (e ∷ es) n =
    go (is_of_definition e.name || is_within_definition e.name) refl (unmarked es (n + 1))
  where
    many : ℕ
    many = prefix_len is_outside es

    go : (x : Bool) → (is_of_definition e.name || is_within_definition e.name) ≡ x →
        marked (n + 1) es ≡ marked ((n + 1) + many) (drop many es) →
        let all = prefix_len is_outside (e ∷ es) in
        marked n (e ∷ es) ≡ marked (n + all) (drop all (e ∷ es))
    go true of following =
        let none : prefix_len is_outside (e ∷ es) ≡ 0 = ap (λ (x : Bool). cond (not x) (1 + many) 0) of in
        let sum : n ≡ n + 0 = omega arith in
        subst (λ (k : ℕ). marked n (e ∷ es) ≡ marked (n + k) (drop k (e ∷ es))) (sym none)
        (ap (λ (k : ℕ). marked k (e ∷ es)) sum)
    go false outside following =
        let more : 1 + many ≡ suc many = omega arith in
        let run : prefix_len is_outside (e ∷ es) ≡ suc many =
        ap (λ (x : Bool). cond (not x) (1 + many) 0) outside ∙ more in
        let sum : (n + 1) + many ≡ n + suc many = omega arith in
        subst (λ (k : ℕ). marked n (e ∷ es) ≡ marked (n + k) (drop k (e ∷ es))) (sym run)
        (ap (λ (x : Bool). cond x (n ∷ marked (n + 1) es) (marked (n + 1) es)) (first-false _ _ outside) ∙ following
        ∙ ap (λ (k : ℕ). marked k (drop many es)) sum)

-- What is marked of some events, up to one of them, leads to what is marked of all.

pub marks-here : (events : List Event) (before at : ℕ) (old new given : List ℕ) (d : Event) → at < length events →
    is_of_definition (get_or events at d).name ≡ true → new ≡ given ++ (before + at) ∷ [] →
    given ++ marked (before + at) (drop at events) ≡ old →
    new ++ marked (before + (at + 1)) (drop (at + 1) events) ≡ old
marks-here events before at old new given d within of is so_far =
    let e : Event = get_or events at d in
    let es : List Event = drop (at + 1) events in
    let n : ℕ = before + at in
    let sum : before + (at + 1) ≡ n + 1 = omega arith in
    ap (λ (l : List ℕ). l ++ marked (before + (at + 1)) es) is
    ∙ append_assoc given (n ∷ []) (marked (before + (at + 1)) es)
    ∙ ap (λ (k : ℕ). given ++ n ∷ marked k es) sum
    ∙ ap (λ (l : List ℕ). given ++ l)
    (sym (ap (λ (x : Bool). cond x (n ∷ marked (n + 1) es) (marked (n + 1) es)) of))
    ∙ ap (λ (l : List Event). given ++ marked n l) (sym (drop_more events at d within)) ∙ so_far

pub marks-past : (events : List Event) (before at many : ℕ) (old given : List ℕ) (d : Event) → at < length events →
    is_of_definition (get_or events at d).name ≡ false → many ≡ prefix_len is_outside (drop (at + 1) events) →
    given ++ marked (before + at) (drop at events) ≡ old →
    given ++ marked (before + (at + (1 + many))) (drop (at + (1 + many)) events) ≡ old
marks-past events before at many old given d within other run so_far =
    let e : Event = get_or events at d in
    let es : List Event = drop (at + 1) events in
    let n : ℕ = before + at in
    let sum : before + (at + (1 + many)) ≡ (n + 1) + many = omega arith in
    let place : at + (1 + many) ≡ (at + 1) + many = omega arith in
    ap (λ (k : ℕ). given ++ marked k (drop (at + (1 + many)) events)) sum
    ∙ ap (λ (k : ℕ). given ++ marked ((n + 1) + many) (drop k events)) place
    ∙ ap (λ (l : List Event). given ++ marked ((n + 1) + many) l) (sym (drops many (at + 1) events))
    ∙ ap (λ (k : ℕ). given ++ marked ((n + 1) + k) (drop k es)) run
    ∙ ap (λ (l : List ℕ). given ++ l) (sym (unmarked es (n + 1)))
    ∙ ap (λ (l : List ℕ). given ++ l)
    (sym (ap (λ (x : Bool). cond x (n ∷ marked (n + 1) es) (marked (n + 1) es)) other))
    ∙ ap (λ (l : List Event). given ++ marked n l) (sym (drop_more events at d within)) ∙ so_far

marks-both : (before : ℕ) (some more : List Event) →
    marked before (some ++ more) ≡ marked before some ++ marked (before + length some) more
marks-both before [] more = let sum : before ≡ before + 0 = omega arith in ap (λ (k : ℕ). marked k more) sum
marks-both before (e ∷ es) more = go (is_of_definition e.name) refl (marks-both (before + 1) es more)
  where
    by : (x : Bool) → is_of_definition e.name ≡ x →
        marked (before + 1) (es ++ more) ≡ marked (before + 1) es ++ marked (before + length (e ∷ es)) more →
        marked before (e ∷ es ++ more) ≡ marked before (e ∷ es) ++ marked (before + length (e ∷ es)) more
    by true of following =
        ap (λ (x : Bool). cond x (before ∷ marked (before + 1) (es ++ more)) (marked (before + 1) (es ++ more))) of
        ∙ ap (λ (l : List ℕ). before ∷ l) following
        ∙ ap (λ (l : List ℕ). l ++ marked (before + length (e ∷ es)) more)
        (sym (ap (λ (x : Bool). cond x (before ∷ marked (before + 1) es) (marked (before + 1) es)) of))
    by false other following =
        ap (λ (x : Bool). cond x (before ∷ marked (before + 1) (es ++ more)) (marked (before + 1) (es ++ more))) other
        ∙ following
        ∙ ap (λ (l : List ℕ). l ++ marked (before + length (e ∷ es)) more)
        (sym (ap (λ (x : Bool). cond x (before ∷ marked (before + 1) es) (marked (before + 1) es)) other))

    go : (x : Bool) → is_of_definition e.name ≡ x →
        marked (before + 1) (es ++ more) ≡ marked (before + 1) es ++ marked ((before + 1) + length es) more →
        marked before (e ∷ es ++ more) ≡ marked before (e ∷ es) ++ marked (before + length (e ∷ es)) more
    go x is following =
        let sum : (before + 1) + length es ≡ before + length (e ∷ es) = omega arith in
        by x is (following ∙ ap (λ (k : ℕ). marked (before + 1) es ++ marked k more) sum)

pub marks-more : (some more : List Event) → marked 0 (some ++ more) ≡ marked 0 some ++ marked (length some) more
marks-more some more =
    let sum : 0 + length some ≡ length some = omega arith in
    marks-both 0 some more ∙ ap (λ (k : ℕ). marked 0 some ++ marked k more) sum
