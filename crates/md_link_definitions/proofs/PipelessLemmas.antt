-- Parts of a line without a pipe.
use Rattle.std.proofs.Common.{◌≡◌, ℕ, ◌+◌, ◌-◌, ◌≤◌, Bool, true, false, ◌&&◌, List, ◌++◌, length, take, drop, refl, sym}
use Rattle.std.proofs.Common.{◌∙◌, ap, ap₂, arith, length-drop, take-add}
use Rattle.std.specs.Prelude.{not, ◌==◌}
use Rattle.std.proofs.lemmas.List.{take-append-drop, take_all}
use Rattle.std.proofs.lemmas.List.Folds.{list_all-append}
use Rattle.md_meaning.specs.Ascii.{pipe}
use Rattle.md_link_definitions.specs.Head.{is_pipeless}

joined : (front following : List ℕ) → is_pipeless (front ++ following) ≡ (is_pipeless front && is_pipeless following)
joined front following = list_all-append (λ b. not (b == pipe)) front following

-- a line in two parts
cut : (line : List ℕ) (at : ℕ) → is_pipeless line ≡ (is_pipeless (take at line) && is_pipeless (drop at line))
cut line at = ap is_pipeless (sym (take-append-drop at line)) ∙ joined (take at line) (drop at line)

-- the same parts, with what is in both looked at twice
twice : (x y z : Bool) → (x && (y && z)) ≡ ((x && y) && (y && z))
twice true true z = refl
twice true false z = refl
twice false y z = refl

overlap : (line : List ℕ) (m n : ℕ) → m ≤ n →
    is_pipeless line ≡ (is_pipeless (take n line) && is_pipeless (drop m line))
overlap line m n le =
    let following = drop m line in
    let k = n - m in
    let sum : m + k ≡ n = omega (arith, le) in
    let front : is_pipeless (take n line) ≡ (is_pipeless (take m line) && is_pipeless (take k following)) =
    ap (λ (i : ℕ). is_pipeless (take i line)) (sym sum) ∙ ap is_pipeless (take-add m k line)
    ∙ joined (take m line) (take k following) in
    let rest = cut following k in
    cut line m ∙ ap (λ (x : Bool). is_pipeless (take m line) && x) rest
    ∙ twice (is_pipeless (take m line)) (is_pipeless (take k following)) (is_pipeless (drop k following))
    ∙ sym (ap₂ (λ (x y : Bool). x && y) front rest)

-- what lies after an index, as slicing gives it
following-whole : (line : List ℕ) (at : ℕ) → take (length line - at) (drop at line) ≡ drop at line
following-whole line at =
    take_all (length line - at) (drop at line) (let size = length-drop at line in omega (arith, size))

-- a line whose front has no pipe, by what lies after an index in it
pub pipeless-following : (line : List ℕ) (at n : ℕ) (y : Bool) → at ≤ n → is_pipeless (take n line) ≡ true →
    y ≡ is_pipeless (take (length line - at) (drop at line)) → y ≡ is_pipeless line
pipeless-following line at n y le front following =
    following ∙ ap is_pipeless (following-whole line at)
    ∙ sym (overlap line at n le ∙ ap (λ (x : Bool). x && is_pipeless (drop at line)) front)

-- a line whose front has a pipe
pub pipe-in-front : (line : List ℕ) (n : ℕ) → is_pipeless (take n line) ≡ false → is_pipeless line ≡ false
pipe-in-front line n front = cut line n ∙ ap (λ (x : Bool). x && is_pipeless (drop n line)) front

neither : (x : Bool) → (x && false) ≡ false
neither true = refl
neither false = refl

-- a line that has a pipe after an index
pub pipe-following : (line : List ℕ) (at n : ℕ) → is_pipeless (take n (drop at line)) ≡ false → is_pipeless line ≡ false
pipe-following line at n some =
    cut line at
    ∙ ap (λ (x : Bool). is_pipeless (take at line) && x) (pipe-in-front (drop at line) n some)
    ∙ neither (is_pipeless (take at line))

-- bytes without a pipe, and more of them
pub pipeless-more : (line : List ℕ) (at end : ℕ) → at ≤ end → is_pipeless (take at line) ≡ true →
    is_pipeless (take (end - at) (drop at line)) ≡ true → is_pipeless (take end line) ≡ true
pipeless-more line at end le front following =
    let sum : at + (end - at) ≡ end = omega (arith, le) in
    ap (λ (i : ℕ). is_pipeless (take i line)) (sym sum) ∙ ap is_pipeless (take-add at (end - at) line)
    ∙ joined (take at line) (take (end - at) (drop at line))
    ∙ ap₂ (λ (x y : Bool). x && y) front following
