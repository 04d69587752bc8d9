-- The lines of the exact list are after their containers what their rows are.
use Rattle.std.proofs.Common.{◌≡◌, ℕ, Bool, false, cond, List, [], ◌∷◌, length, refl, ap, ap₂, sym, ◌∙◌, subst, arith}
use Rattle.std.proofs.lemmas.Bool.Decides.{nat_tests}
use Rattle.std.specs.Prelude.{◌==◌}
use Rattle.md_engine.specs.declared.configuration.ParseOptions.{ParseOptions}
use Rattle.md_engine.specs.declared.tokenizer.held_leaf.HeldLeaf.{HeldLeaf}
use Rattle.md_engine.specs.declared.tokenizer.held_leaf.HeldLeaf.TheVariants as held_leaf
use Rattle.md_meaning.specs.Containers.{Taken}
use Rattle.md_meaning.specs.Rest.{Rest}
use Rattle.md_meaning.specs.State.{Path, spot}
use Rattle.md_meaning.specs.Step.{step}
use Rattle.md_events.specs.Exact.Places.{TextLine, whole}
use Rattle.md_events.specs.Exact.Prefixes.{following_all, containers, taken_prefixes, new_containers}
use Rattle.md_events.specs.Exact.Rows as exact
use Rattle.md_events.specs.Exact.Rows.{Role, next_role, role_before, row_of, rows_of}
use Rattle.proof_frame.specs.Change.{is_none}
use Rattle.proof_frame.specs.HeldLeaf.{may_continue, met_by}
use Rattle.proof_frame.specs.Row.{Row}
use Rattle.proof_rows.specs.Fronted.{Contained, contained, contained_after, contained_of}
use Rattle.proof_rows.specs.Rows.{line_kind}
use Rattle.proof_rows.specs.Valid.{IsPlain, containers_of, still_of}
use Rattle.proof_rows.proofs.ContainedLemmas.{contained-still}
use Rattle.proof_rows.proofs.RowFacts.{IsRow}
use Rattle.proof_exact.proofs.Opened.{all-same, taken_prefixes-same, held_in, new-same, prefixed}
use Rattle.proof_rows.proofs.KindRoles.{kind_role, line-role}
use Rattle.proof_exact.proofs.RowRoles.{IsNext, MeetsLeaf, next-line, next-none, role-before, row_role}

-- what a line does where this is open
abbrev pub contained_at : ParseOptions → Path → Rest → Contained
contained_at options p r = contained options (containers_of p) (still_of p) r

-- What the line meets, and its rest, by the containers that continue and open.

pub none-new : (ts : List Taken) → is_none (held_in ts) ≡ (length ts == 0)
none-new [] = refl
none-new (t ∷ ts) = let some : (length (t ∷ ts) == 0) ≡ false = grind (arith, nat_tests) in sym some

pub contained-by : (options : ParseOptions) (p : Path) (line : TextLine) → IsPlain p →
    let on = taken_prefixes options p (whole line) in
    let all = length on == length (containers p) in
    let inner = following_all (whole line) on in
    let new = new_containers options p all inner in
    contained_at options p (whole line) ≡
    contained_of options (containers_of p) (still_of p) (prefixed (whole line) on) (prefixed inner new)
unfolding contained
contained-by options p line plain =
    ap (contained_after options (containers_of p) (still_of p)) (taken_prefixes-same options p (whole line))
    ∙ ap
    (contained_of options (containers_of p) (still_of p)
    (prefixed (whole line) (taken_prefixes options p (whole line))))
    (new-same options p (whole line) plain)

-- A line of the exact list by itself, before these.
pub role-alone : (options : ParseOptions) (p : Path) (line : TextLine) (below : List exact.Row) → IsPlain p →
    let c = contained_at options p (whole line) in
    (row_of options p line below).role ≡
    role_before (next_role below) c.rest (kind_role options (spot p).leaf c.on c.rest (line_kind options c.on c.rest))
role-alone options p line below plain =
    ap (role_before (next_role below) rest) (line-role options rest (spot p).leaf all (length new == 0) plain)
    ∙ ap₂ (λ (met : HeldLeaf) (r : Rest). to met r) (sym met) (sym (ap (λ (c : Contained). c.rest) by))
  where
    on : List Taken
    on = taken_prefixes options p (whole line)

    all : Bool
    all = length on == length (containers p)

    inner : Rest
    inner = following_all (whole line) on

    new : List Taken
    new = new_containers options p all inner

    rest : Rest
    rest = following_all inner new

    to : HeldLeaf → Rest → Role
    to met r = role_before (next_role below) r (kind_role options (spot p).leaf met r (line_kind options met r))

    by : contained_at options p (whole line) ≡
        contained_of options (containers_of p) (still_of p) (prefixed (whole line) on) (prefixed inner new)
    by = contained-by options p line plain

    met : (contained_at options p (whole line)).on ≡ cond (length new == 0) (met_by all (still_of p)) held_leaf.None
    met =
        ap (λ (c : Contained). c.on) by
        ∙ ap₂ (λ (x y : Bool). cond x (met_by y (still_of p)) held_leaf.None) (none-new new)
        (sym (all-same options p (whole line)))

-- What is known of a line where this path is open: it is this row, and what is open after it is what the row holds.
pub record IsMet (options : ParseOptions) (bytes : List ℕ) (p : Path) (line : TextLine) (row : Row) : Type 0 where
  pub plain : IsPlain p
  pub own : List ℕ
  pub is : IsRow options bytes own row
  pub rest_is : is.rest ≡ (contained_at options p (whole line)).rest
  pub on : row.on ≡ (contained_at options p (whole line)).on
  pub change : row.change ≡ (contained_at options p (whole line)).change
  pub following : still_of (step options p (whole line)) ≡ row.following

-- the containers that end after it are those that end before the next
abbrev pub EndsTo : Row → List Row → Type 0
EndsTo row [] = Unit {0}
EndsTo row (next ∷ rows) = row.closed_after ≡ next.change.closes

abbrev pub AreMet : ParseOptions → List ℕ → Path → List TextLine → List Row → Type 0
AreMet options bytes p [] [] = Unit {0}
AreMet options bytes p (line ∷ lines) (row ∷ rows) =
    IsMet options bytes p line row × EndsTo row rows × AreMet options bytes (step options p (whole line)) lines rows
AreMet options bytes p _ _ = ⊥

abbrev pub meets-leaf : (options : ParseOptions) (bytes : List ℕ) (p : Path) (line : TextLine) (row : Row) →
    IsMet options bytes p line row → MeetsLeaf options bytes (spot p).leaf row
meets-leaf options bytes p line row is = record {
  line = is.own;
  is = is.is;
  met =
      λ may. is.on
      ∙ contained-still options (containers_of p) (still_of p) (whole line) (ap may_continue (sym is.on) ∙ may);
}

-- The first of these lines is what its row is before the others.
abbrev pub HasRole : (options : ParseOptions) (bytes : List ℕ) (p : Path) (lines : List TextLine) (rows : List Row) →
    AreMet options bytes p lines rows → Type 0
HasRole options bytes p (line ∷ lines) (row ∷ rows) are =
    next_role (rows_of options p (line ∷ lines)) ≡ row_role options (spot p).leaf are.0.is.rest row rows
HasRole options bytes p lines rows are = Unit {0}

next-known : (options : ParseOptions) (bytes : List ℕ) (p : Path) (lines : List TextLine) (rows : List Row) →
    (are : AreMet options bytes p lines rows) → HasRole options bytes p lines rows are →
    IsNext (next_role (rows_of options p lines)) (still_of p) rows
next-known options bytes p [] [] are has = next-none (still_of p)
next-known options bytes p [] (row ∷ rows) are has = absurd are
next-known options bytes p (line ∷ lines) [] are has = absurd are
next-known options bytes p (line ∷ lines) (row ∷ rows) are has =
    subst (λ (role : Role). IsNext role (still_of p) (row ∷ rows)) (sym has)
    (next-line options (spot p).leaf are.0.is.rest row rows)

pub first-role : (options : ParseOptions) (bytes : List ℕ) (p : Path) (lines : List TextLine) (rows : List Row) →
    (are : AreMet options bytes p lines rows) → HasRole options bytes p lines rows are
first-role options bytes p [] [] are = tt
first-role options bytes p [] (row ∷ rows) are = tt
first-role options bytes p (line ∷ lines) [] are = tt
first-role options bytes p (line ∷ lines) (row ∷ rows) are =
    role-alone options p line below is.plain
    ∙ ap₂
    (λ (met : HeldLeaf) (r : Rest).
    role_before (next_role below) r (kind_role options (spot p).leaf met r (line_kind options met r))) (sym is.on)
    (sym is.rest_is)
    ∙ ap
    (λ kind. role_before (next_role below) is.is.rest (kind_role options (spot p).leaf row.on is.is.rest kind))
    (sym is.is.kind)
    ∙ role-before options bytes (spot p).leaf row (next_role below) rows (meets-leaf options bytes p line row is)
    (subst (λ (following : HeldLeaf). IsNext (next_role below) following rows) is.following
    (next-known options bytes after lines rows are.2 (first-role options bytes after lines rows are.2)))
  where
    is : IsMet options bytes p line row
    is = are.0

    after : Path
    after = step options p (whole line)

    below : List exact.Row
    below = rows_of options after lines
