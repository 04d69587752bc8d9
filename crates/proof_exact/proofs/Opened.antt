-- Which containers continue and open on a line: those that its row has, each with the rest after its prefix.
use Rattle.std.proofs.Common.{◌≡◌, ℕ, zero, suc, ◌≤◌, Bool, true, false, cond, ◌&&◌, List, [], ◌∷◌, length, map}
use Rattle.std.proofs.Common.{drop, refl, ap, ap₂, sym, ◌∙◌, arith}
use Rattle.std.specs.Prelude.{◌==◌, Option, Some, None}
use Rattle.std.proofs.Math.Bool.{and_comm}
use Rattle.std.proofs.lemmas.Bool.Decides.{nat_tests}
use Rattle.std.proofs.lemmas.List.{length-map}
use Rattle.md_engine.specs.declared.configuration.ParseOptions.{ParseOptions}
use Rattle.md_containers.specs.Interrupts.{is_interrupted}
use Rattle.md_meaning.specs.Containers.{Taken, continues, opens}
use Rattle.md_meaning.specs.Rest.{Rest}
use Rattle.md_meaning.specs.State.{At, Container, Leaf, NoLeaf, OpenCode, OpenFence, OpenHtml, OpenParagraph, OpenTable}
use Rattle.md_meaning.specs.State.{Path, Within, spot}
use Rattle.md_meaning.specs.Step.{is_concrete, is_open_text}
use Rattle.md_events.specs.Exact.Prefixes.{following_all, containers, taken_prefixes, new_containers, opened}
use Rattle.proof_frame.specs.Change.{is_none, others_of}
use Rattle.proof_frame.specs.HeldLeaf.{kind_of_leaf}
use Rattle.proof_rows.specs.Fronted.{Prefixed, no_prefix, one_more, prefixes_after, prefixes_new, prefixes_on}
use Rattle.proof_rows.specs.Valid.{IsPlain, containers_of, still_of}
use Rattle.proof_rows.proofs.FurtherSpan.{built-concrete}

pub containers-same : (p : Path) → containers p ≡ containers_of p
containers-same (At s) = refl
containers-same (Within before container p) = ap (λ (cs : List Container). container ∷ cs) (containers-same p)

-- the containers of these
abbrev pub held_in : List Taken → List Container
held_in ts = map (λ (t : Taken). t.container) ts

-- them, and the rest after them, as a row has both
abbrev pub prefixed : Rest → List Taken → Prefixed
prefixed r ts = record { containers = held_in ts; rest = following_all r ts }

-- Those that continue.

pub taken_prefixes-same : (options : ParseOptions) (p : Path) (r : Rest) →
    prefixes_on options (containers_of p) r ≡ prefixed r (taken_prefixes options p r)
taken_prefixes-same options (At s) r = refl
taken_prefixes-same options (Within before container p) r =
    go (taken_prefixes-same options p) (continues options container r)
  where
    go : ((s : Rest) → prefixes_on options (containers_of p) s ≡ prefixed s (taken_prefixes options p s)) →
        (o : Option Taken) →
        (elim o [ None ↦ no_prefix r | Some t ↦ one_more t.container (prefixes_on options (containers_of p) t.rest) ]) ≡
        prefixed r (elim o [ Some t ↦ t ∷ taken_prefixes options p t.rest | None ↦ [] ])
    go below None = refl
    go below (Some t) = ap (one_more t.container) (below t.rest)

-- there are no more than are open
pub taken_prefixes-fewer : (options : ParseOptions) (p : Path) (r : Rest) →
    length (taken_prefixes options p r) ≤ length (containers_of p)
taken_prefixes-fewer options (At s) r = omega arith
taken_prefixes-fewer options (Within before container p) r =
    go (taken_prefixes-fewer options p) (continues options container r)
  where
    go : ((s : Rest) → length (taken_prefixes options p s) ≤ length (containers_of p)) → (o : Option Taken) →
        length {A = Taken} (elim o [ Some t ↦ t ∷ taken_prefixes options p t.rest | None ↦ [] ]) ≤
        suc (length (containers_of p))
    go below None = omega arith
    go below (Some t) = let more = below t.rest in omega arith

-- whether all of these did
none-following : (size : ℕ) (cs : List Container) → size ≤ length cs → (size == length cs) ≡ is_none (drop size cs)
none-following zero [] le = refl
none-following zero (c ∷ cs) le = let some : (0 == length (c ∷ cs)) ≡ false = grind (arith, nat_tests) in some
none-following (suc size) [] le = absurd (omega (arith, le))
none-following (suc size) (c ∷ cs) le =
    let one : (suc size == suc (length cs)) ≡ (size == length cs) = grind (arith, nat_tests) in
    one ∙ none-following size cs (omega (arith, le))

pub all-same : (options : ParseOptions) (p : Path) (r : Rest) →
    (length (taken_prefixes options p r) == length (containers p)) ≡
    is_none (others_of (containers_of p) (held_in (taken_prefixes options p r)))
all-same options p r =
    ap (λ (cs : List Container). length (taken_prefixes options p r) == length cs) (containers-same p)
    ∙ none-following (length (taken_prefixes options p r)) (containers_of p) (taken_prefixes-fewer options p r)
    ∙ ap (λ (n : ℕ). is_none (drop n (containers_of p)))
    (sym (length-map (taken_prefixes options p r) (λ (t : Taken). t.container)))

-- Those that open.

pub opened-same : (options : ParseOptions) (interrupting : Bool) (n : ℕ) (r : Rest) →
    prefixes_new options interrupting n r ≡ prefixed r (opened options interrupting n r)
opened-same options interrupting zero r = refl
opened-same options interrupting (suc n) r = go (opened-same options false n) (opens options interrupting r)
  where
    go : ((s : Rest) → prefixes_new options false n s ≡ prefixed s (opened options false n s)) → (o : Option Taken) →
        (elim o [ None ↦ no_prefix r | Some t ↦ one_more t.container (prefixes_new options false n t.rest) ]) ≡
        prefixed r (elim o [ Some t ↦ t ∷ opened options false n t.rest | None ↦ [] ])
    go below None = refl
    go below (Some t) = ap (one_more t.container) (below t.rest)

-- The first may interrupt a paragraph.
pub text-same : (leaf : Leaf) → is_open_text leaf ≡ is_interrupted (kind_of_leaf leaf)
text-same (OpenParagraph lines) = refl
text-same NoLeaf = refl
text-same (OpenCode lines) = refl
text-same (OpenFence o lines) = refl
text-same (OpenHtml kind lines) = refl
text-same (OpenTable delimiter rows) = refl

-- where these are the others, and all is whether there are none
new-by : (options : ParseOptions) (p : Path) (others : List Container) (r : Rest)
    (proceeded : List Container) → IsPlain p →
    prefixes_after options (still_of p) others (record { containers = proceeded; rest = r }) ≡
    prefixed r (new_containers options p (is_none others) r)
new-by options p others r proceeded plain =
    ap₂
    (λ (x y : Bool). cond x (no_prefix r) (prefixes_new options y (length r.bytes) r))
    (ap (λ (x : Bool). x && is_none others) (sym (built-concrete (spot p).leaf plain))
    ∙ and_comm (is_concrete (spot p).leaf) (is_none others))
    (ap (λ (x : Bool). x && is_none others) (sym (text-same (spot p).leaf))
    ∙ and_comm (is_open_text (spot p).leaf) (is_none others))
    ∙ go (is_none others && is_concrete (spot p).leaf)
  where
    interrupting : Bool
    interrupting = is_none others && is_open_text (spot p).leaf

    go : (x : Bool) →
        cond x (no_prefix r) (prefixes_new options interrupting (length r.bytes) r) ≡
        prefixed r (cond x [] (opened options interrupting (length r.bytes) r))
    go true = refl
    go false = opened-same options interrupting (length r.bytes) r

-- So the new ones are those of the row.
pub new-same : (options : ParseOptions) (p : Path) (r : Rest) → IsPlain p →
    let on = taken_prefixes options p r in
    let inner = following_all r on in
    prefixes_after options (still_of p) (others_of (containers_of p) (held_in on)) (prefixed r on) ≡
    prefixed inner (new_containers options p (length on == length (containers p)) inner)
new-same options p r plain =
    let on : List Taken = taken_prefixes options p r in
    new-by options p (others_of (containers_of p) (held_in on)) (following_all r on) (held_in on) plain
    ∙ ap (λ (x : Bool). prefixed (following_all r on) (new_containers options p x (following_all r on)))
    (sym (all-same options p r))
