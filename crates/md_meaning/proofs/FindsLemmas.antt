-- What is known of what a test finds.
use Rattle.std.proofs.Common.{◌≡◌, Bool, true, false, cond, Option, Some, None, refl, subst}
use Rattle.std.specs.Option.{option_or}

-- what is found, if anything is, keeps this
abbrev pub Finds : {A : Type 0} → Option A → (A → Type 0) → Type 0
Finds {A} o P = (a : A) → o ≡ Some a → P a

pub some-found : {A : Type 0} (P : A → Type 0) (a : A) → P a → Finds (Some a) P
some-found P a h = λ b e. let same : a ≡ b = cc in subst P same h

pub none-found : {A : Type 0} (P : A → Type 0) → Finds None P
none-found P = λ a e. cc

-- nothing is found where a test fails
pub when-found : {A : Type 0} (P : A → Type 0) (x : Bool) (o : Option A) → (x ≡ true → Finds o P) →
    Finds (cond x o None) P
when-found P true o h = h refl
when-found P false o h = none-found P

-- or where it passes
pub unless-found : {A : Type 0} (P : A → Type 0) (x : Bool) (o : Option A) → Finds o P → Finds (cond x None o) P
unless-found P true o h = none-found P
unless-found P false o h = h

-- what the first trial finds, or else the second
pub first-found : {A : Type 0} (P : A → Type 0) (o p : Option A) → Finds o P → Finds p P → Finds (option_or o p) P
first-found P None p h k = k
first-found P (Some a) p h k = h
