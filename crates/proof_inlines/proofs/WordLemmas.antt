-- Which names a word of an expression may have: what holds of all of them holds of each, and what comes at most once
-- does not come again.
use Rattle.std.proofs.Common.{◌≡◌, Bool, true, false, cond, not, ◌&&◌, ◌||◌, List, [], ◌∷◌, refl, ap, ◌∙◌}
use Rattle.std.proofs.Common.{◌⊎◌, inl, inr, ⊎_elim}
use Rattle.std.specs.List.{list_all, list_any}
use Rattle.std.proofs.lemmas.Bool.{and_from, and_parts, or_cases, or_left, or_right}
use denote.Enum.Bare.{same_true}
use denote.Enum.Declared.{declared}
use Rattle.md_engine.specs.contracts.event.Name.{enum}
use Rattle.md_engine.specs.declared.event.Name.{Name}
use Rattle.md_events.specs.Events.Words.{Expression, Many, Never, Nothing, One, Or, Then, and_then, following, may_end}
use Rattle.md_events.specs.Events.Words.{or_else, same_name}

pub same-path : (a b : Name) → same_name a b ≡ true → a ≡ b
same-path a b h = same_true (declared enum) tt a b h

-- an expression of which no word is
abbrev pub is_never : Expression → Bool
is_never Never = true
is_never _ = false

-- a test of each name that a word may have
abbrev pub all_names : (Name → Bool) → Expression → Bool
all_names test Never = true
all_names test Nothing = true
all_names test (One names) = list_all test names
all_names test (Then x y) = all_names test x && all_names test y
all_names test (Or x y) = all_names test x && all_names test y
all_names test (Many x) = all_names test x

-- no word has such a name
abbrev pub none_of : (Name → Bool) → Expression → Bool
none_of test x = all_names (λ (name : Name). not (test name)) x

-- each word has such a name at most once
abbrev pub once_of : (Name → Bool) → Expression → Bool
once_of test Never = true
once_of test Nothing = true
once_of test (One names) = true
once_of test (Then x y) = (once_of test x && none_of test y) || (none_of test x && once_of test y)
once_of test (Or x y) = once_of test x && once_of test y
once_of test (Many x) = none_of test x

-- All names.

all-and_then : (test : Name → Bool) (x y : Expression) → all_names test x ≡ true → all_names test y ≡ true →
    all_names test (and_then x y) ≡ true
all-and_then test Never y h k = refl
all-and_then test Nothing y h k = k
all-and_then test x y h k = and_from (all_names test x) (all_names test y) h k

all-or_else : (test : Name → Bool) (x y : Expression) → all_names test x ≡ true → all_names test y ≡ true →
    all_names test (or_else x y) ≡ true
all-or_else test Never y h k = k
all-or_else test x Never h k = h
all-or_else test x y h k = and_from (all_names test x) (all_names test y) h k

all-if : (test : Name → Bool) (b : Bool) (x : Expression) → all_names test x ≡ true →
    all_names test (cond b x Never) ≡ true
all-if test true x h = h
all-if test false x h = refl

all-one : (test : Name → Bool) (b : Bool) → all_names test (cond b Nothing Never) ≡ true
all-one test true = refl
all-one test false = refl

-- what follows has no other names
pub all-following : (test : Name → Bool) (name : Name) (x : Expression) → all_names test x ≡ true →
    all_names test (following name x) ≡ true
all-following test name Never h = refl
all-following test name Nothing h = refl
all-following test name (One names) h = all-one test (list_any (same_name name) names)
all-following test name (Then x y) h =
    let two : (all_names test x ≡ true) × (all_names test y ≡ true) = and_parts (all_names test x) (all_names test y)
    h in
    all-or_else test (and_then (following name x) y) (cond (may_end x) (following name y) Never)
    (all-and_then test (following name x) y (all-following test name x two.0) two.1)
    (all-if test (may_end x) (following name y) (all-following test name y two.1))
all-following test name (Or x y) h =
    let two : (all_names test x ≡ true) × (all_names test y ≡ true) = and_parts (all_names test x) (all_names test y)
    h in
    all-or_else test (following name x) (following name y) (all-following test name x two.0)
    (all-following test name y two.1)
all-following test name (Many x) h =
    all-and_then test (following name x) (Many x) (all-following test name x h) h

-- What comes.

never-and_then : (x y : Expression) → is_never (and_then x y) ≡ false → is_never x ≡ false
never-and_then Never y h = h
never-and_then _ y h = refl

never-or_else : (x y : Expression) → is_never (or_else x y) ≡ false → (is_never x ≡ false) ⊎ (is_never y ≡ false)
never-or_else Never y h = inr h
never-or_else _ y h = inl refl

never-if : (b : Bool) (x : Expression) → is_never (cond b x Never) ≡ false → is_never x ≡ false
never-if true x h = h
never-if false x h = cc

never-one : (b : Bool) → is_never (cond b Nothing Never) ≡ false → b ≡ true
never-one true h = refl
never-one false h = cc

any-of : (test : Name → Bool) (name : Name) (names : List Name) → list_any (same_name name) names ≡ true →
    list_all test names ≡ true → test name ≡ true
any-of test name [] some all = cc
any-of test name (m ∷ names) some all =
    let two : (test m ≡ true) × (list_all test names ≡ true) = and_parts (test m) (list_all test names) all in
    go (or_cases (same_name name m) (list_any (same_name name) names) some) two
    (λ e. any-of test name names e two.1)
  where
    go : (same_name name m ≡ true) ⊎ (list_any (same_name name) names ≡ true) →
        (test m ≡ true) × (list_all test names ≡ true) → (list_any (same_name name) names ≡ true → test name ≡ true) →
        test name ≡ true
    go (inl e) two later = ap test (same-path name m e) ∙ two.0
    go (inr e) two later = later e

-- a name that may come is one of these
pub all-comes : (test : Name → Bool) (name : Name) (x : Expression) → all_names test x ≡ true →
    is_never (following name x) ≡ false → test name ≡ true
all-comes test name Never h k = cc
all-comes test name Nothing h k = cc
all-comes test name (One names) h k =
    any-of test name names (never-one (list_any (same_name name) names) k) h
all-comes test name (Then x y) h k =
    let two : (all_names test x ≡ true) × (all_names test y ≡ true) = and_parts (all_names test x) (all_names test y)
    h in
    go (never-or_else (and_then (following name x) y) (cond (may_end x) (following name y) Never) k)
    (λ e. all-comes test name x two.0 e) (λ e. all-comes test name y two.1 e)
  where
    go : (is_never (and_then (following name x) y) ≡ false)
        ⊎ (is_never (cond (may_end x) (following name y) Never) ≡ false) →
        (is_never (following name x) ≡ false → test name ≡ true) →
        (is_never (following name y) ≡ false → test name ≡ true) → test name ≡ true
    go (inl e) first second = first (never-and_then (following name x) y e)
    go (inr e) first second = second (never-if (may_end x) (following name y) e)
all-comes test name (Or x y) h k =
    let two : (all_names test x ≡ true) × (all_names test y ≡ true) = and_parts (all_names test x) (all_names test y)
    h in
    ⊎_elim (λ e. all-comes test name x two.0 e) (λ e. all-comes test name y two.1 e)
    (never-or_else (following name x) (following name y) k)
all-comes test name (Many x) h k = all-comes test name x h (never-and_then (following name x) (Many x) k)

never-is : (x : Expression) → is_never x ≡ true → x ≡ Never
never-is Never h = refl
never-is _ h = cc

-- where no word has such a name, none follows it
pub none-never : (test : Name → Bool) (name : Name) (x : Expression) → none_of test x ≡ true → test name ≡ true →
    following name x ≡ Never
none-never test name x none is = go (is_never (following name x)) refl
  where
    go : (b : Bool) → is_never (following name x) ≡ b → following name x ≡ Never
    go true e = never-is (following name x) e
    go false e =
        let not_so : not (test name) ≡ true = all-comes (λ (m : Name). not (test m)) name x none e in
        cc

-- At most once.

pub none-once : (test : Name → Bool) (x : Expression) → none_of test x ≡ true → once_of test x ≡ true
none-once test Never h = refl
none-once test Nothing h = refl
none-once test (One names) h = refl
none-once test (Then x y) h =
    let two : (none_of test x ≡ true) × (none_of test y ≡ true) = and_parts (none_of test x) (none_of test y) h in
    or_left (once_of test x && none_of test y) (none_of test x && once_of test y)
    (and_from (once_of test x) (none_of test y) (none-once test x two.0) two.1)
none-once test (Or x y) h =
    let two : (none_of test x ≡ true) × (none_of test y ≡ true) = and_parts (none_of test x) (none_of test y) h in
    and_from (once_of test x) (once_of test y) (none-once test x two.0) (none-once test y two.1)
none-once test (Many x) h = h

once-and_then : (test : Name → Bool) (x y : Expression) → once_of test (Then x y) ≡ true →
    once_of test (and_then x y) ≡ true
once-and_then test Never y h = refl
once-and_then test Nothing y h =
    go (or_cases (none_of test y) (once_of test y) h)
  where
    go : (none_of test y ≡ true) ⊎ (once_of test y ≡ true) → once_of test y ≡ true
    go (inl e) = none-once test y e
    go (inr e) = e
once-and_then test _ y h = h

once-or_else : (test : Name → Bool) (x y : Expression) → once_of test x ≡ true → once_of test y ≡ true →
    once_of test (or_else x y) ≡ true
once-or_else test Never y h k = k
once-or_else test x Never h k = h
once-or_else test x y h k = and_from (once_of test x) (once_of test y) h k

once-if : (test : Name → Bool) (b : Bool) (x : Expression) → once_of test x ≡ true →
    once_of test (cond b x Never) ≡ true
once-if test true x h = h
once-if test false x h = refl

once-one : (test : Name → Bool) (b : Bool) → once_of test (cond b Nothing Never) ≡ true
once-one test true = refl
once-one test false = refl

abbrev none : (Name → Bool) → Name → Bool
none test name = not (test name)

-- what comes at most once does so in what follows
pub once-following : (test : Name → Bool) (name : Name) (x : Expression) → once_of test x ≡ true →
    once_of test (following name x) ≡ true
once-following test name Never h = refl
once-following test name Nothing h = refl
once-following test name (One names) h = once-one test (list_any (same_name name) names)
once-following test name (Then x y) h =
    go (or_cases (once_of test x && none_of test y) (none_of test x && once_of test y) h)
    (λ e. once-following test name x e) (λ e. once-following test name y e)
  where
    put : once_of test (Then (following name x) y) ≡ true → once_of test (following name y) ≡ true →
        once_of test (following name (Then x y)) ≡ true
    put a b =
        once-or_else test (and_then (following name x) y) (cond (may_end x) (following name y) Never)
        (once-and_then test (following name x) y a)
        (once-if test (may_end x) (following name y) b)

    go : (once_of test x && none_of test y ≡ true) ⊎ (none_of test x && once_of test y ≡ true) →
        (once_of test x ≡ true → once_of test (following name x) ≡ true) →
        (once_of test y ≡ true → once_of test (following name y) ≡ true) →
        once_of test (following name (Then x y)) ≡ true
    go (inl e) first second =
        let two : (once_of test x ≡ true) × (none_of test y ≡ true) = and_parts (once_of test x) (none_of test y) e in
        put
        (or_left (once_of test (following name x) && none_of test y)
        (none_of test (following name x) && once_of test y)
        (and_from (once_of test (following name x)) (none_of test y) (first two.0) two.1))
        (none-once test (following name y) (all-following (none test) name y two.1))
    go (inr e) first second =
        let two : (none_of test x ≡ true) × (once_of test y ≡ true) = and_parts (none_of test x) (once_of test y) e in
        put
        (or_right (once_of test (following name x) && none_of test y)
        (none_of test (following name x) && once_of test y)
        (and_from (none_of test (following name x)) (once_of test y) (all-following (none test) name x two.0) two.1))
        (second two.1)
once-following test name (Or x y) h =
    let two : (once_of test x ≡ true) × (once_of test y ≡ true) = and_parts (once_of test x) (once_of test y) h in
    once-or_else test (following name x) (following name y) (once-following test name x two.0)
    (once-following test name y two.1)
once-following test name (Many x) h =
    none-once test (following name (Many x)) (all-following (none test) name (Many x) h)

-- and does not come again
pub once-comes : (test : Name → Bool) (name : Name) (x : Expression) → once_of test x ≡ true → test name ≡ true →
    none_of test (following name x) ≡ true
once-comes test name Never h is = refl
once-comes test name Nothing h is = refl
once-comes test name (One names) h is = all-one (none test) (list_any (same_name name) names)
once-comes test name (Then x y) h is =
    go (or_cases (once_of test x && none_of test y) (none_of test x && once_of test y) h)
    (λ e. once-comes test name x e is) (λ e. once-comes test name y e is)
  where
    go : (once_of test x && none_of test y ≡ true) ⊎ (none_of test x && once_of test y ≡ true) →
        (once_of test x ≡ true → none_of test (following name x) ≡ true) →
        (once_of test y ≡ true → none_of test (following name y) ≡ true) →
        none_of test (following name (Then x y)) ≡ true
    go (inl e) first second =
        let two : (once_of test x ≡ true) × (none_of test y ≡ true) = and_parts (once_of test x) (none_of test y) e in
        all-or_else (none test) (and_then (following name x) y) (cond (may_end x) (following name y) Never)
        (all-and_then (none test) (following name x) y (first two.0) two.1)
        (all-if (none test) (may_end x) (following name y) (all-following (none test) name y two.1))
    go (inr e) first second =
        let two : (none_of test x ≡ true) × (once_of test y ≡ true) = and_parts (none_of test x) (once_of test y) e in
        all-or_else (none test) (and_then (following name x) y) (cond (may_end x) (following name y) Never)
        (ap (λ (z : Expression). none_of test (and_then z y)) (none-never test name x two.0 is))
        (all-if (none test) (may_end x) (following name y) (second two.1))
once-comes test name (Or x y) h is =
    let two : (once_of test x ≡ true) × (once_of test y ≡ true) = and_parts (once_of test x) (once_of test y) h in
    all-or_else (none test) (following name x) (following name y) (once-comes test name x two.0 is)
    (once-comes test name y two.1 is)
once-comes test name (Many x) h is =
    ap (λ (z : Expression). none_of test (and_then z (Many x))) (none-never test name x h is)

-- A test that each name passes.

list-true : (test : Name → Bool) → ((name : Name) → test name ≡ true) → (names : List Name) →
    list_all test names ≡ true
list-true test h [] = refl
list-true test h (name ∷ names) = and_from (test name) (list_all test names) (h name) (list-true test h names)

pub all-true : (test : Name → Bool) → ((name : Name) → test name ≡ true) → (x : Expression) → all_names test x ≡ true
all-true test h Never = refl
all-true test h Nothing = refl
all-true test h (One names) = list-true test h names
all-true test h (Then x y) = and_from (all_names test x) (all_names test y) (all-true test h x) (all-true test h y)
all-true test h (Or x y) = and_from (all_names test x) (all_names test y) (all-true test h x) (all-true test h y)
all-true test h (Many x) = all-true test h x
