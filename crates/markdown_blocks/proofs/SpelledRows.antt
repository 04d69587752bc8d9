-- What the events of a text are read as, where only constructs that are built may be on: what its lines do to the
-- containers and the leaf that are open.
use Rattle.md_engine.specs.declared.tokenizer.held_leaf.HeldLeaf.TheVariants as held_leaf
use Rattle.md_engine.specs.declared.tokenizer.held_leaf.HeldLeaf.{HeldLeaf}
use Rattle.std.proofs.Common.{◌≡◌, ℕ, zero, suc, ◌+◌, ◌-◌, Bool, false, List, [], ◌∷◌, ◌++◌, ◌≤◌, ◌<◌, not, length, map}
use Rattle.std.proofs.Common.{take, refl, ap, ap₂, sym, ◌∙◌, subst, take_all, arith}
use Rattle.std.specs.Prelude.{nat_lt}
use Rattle.std.proofs.lemmas.Bool.Decides.{nat_tests}
use Rattle.md_meaning.proofs.TextsLemmas.{Both, Ending, LineFeed, Return, ending_bytes}
use Rattle.proof_rows.specs.Rows.{is_further, groups, groups_events, is_lazy}
use Rattle.proof_rows.proofs.LineAfter.{line-begins}
use Rattle.proof_rows.proofs.StepAfter.{containers-step, plain-step}
use Rattle.md_engine.specs.declared.configuration.ParseOptions.{ParseOptions}
use Rattle.md_engine.specs.declared.event.Point.{Point}
use Rattle.md_meaning.specs.Preamble.{rest_at}
use Rattle.md_meaning.specs.Rest.{Rest}
use Rattle.md_events.specs.Events.Spelled.{Reading, read, spelled, unread}
use Rattle.md_meaning.specs.State.{At, Container, Path, closed}
use Rattle.md_meaning.specs.Step.{spot_of, step}
use Rattle.md_meaning.specs.Tree.{End}
use Rattle.proof_frame.specs.ContainerNames.{shape_of}
use Rattle.proof_frame.specs.Change.{Change}
use Rattle.proof_frame.specs.Closed.{close_containers}
use Rattle.markdown_blocks.specs.Fed.{last_leaves, rests_from}
use Rattle.proof_rows.specs.Fronted.{Contained, rest_from}
use Rattle.proof_frame.specs.RestLine.{rest_line}
use Rattle.proof_rows.specs.WithoutMdx.{IsWithoutMdx}
use Rattle.proof_frame.specs.Row.{Row}
use Rattle.proof_rows.specs.Valid.{IsPlain, containers_of, final, still_of, reading}
use Rattle.proof_rows.proofs.ContainedLemmas.{contained-shapes}
use Rattle.proof_rows.proofs.LineSteps.{contained_at}
use Rattle.markdown_blocks.proofs.LastLine.{Recorded, containers-over, no_bytes, steps_over, recorded}
use Rattle.proof_rows.proofs.RowFacts as f
use Rattle.markdown_blocks.proofs.SpelledPaths.{close_containers-all}
use Rattle.markdown_blocks.proofs.SpelledGroups.{Means}
use Rattle.markdown_blocks.proofs.SpelledLines.{still-line}
use Rattle.markdown_blocks.proofs.RowMeans.{MeansLine, row-ends, row-means}
use Rattle.markdown_blocks.proofs.FollowsBelow.{First, following-lazy, first-line, follows-below}

-- Lines, one after another.

-- after an ending each begins at the first column
pub rests-following : (p : Point) (lines : List (List ℕ)) → p.column ≡ 1 → rests_from p lines ≡ map (rest_at 0) lines
rests-following p [] e = refl
rests-following p (line ∷ lines) e =
    let first : p.column - 1 ≡ 0 = omega arith in ap (λ (k : ℕ). rest_at k line ∷ map (rest_at 0) lines) first

-- Where a line begins in the text: before the end of the text,

ending-some : (ending : Ending) → 1 ≤ length (ending_bytes ending)
ending-some LineFeed = omega arith
ending-some Return = omega arith
ending-some Both = omega arith

-- if it has an ending,
begins-in : (options : ParseOptions) (bytes : List ℕ) (cs : List Container) (still : HeldLeaf) (p q : Point)
    (line : List ℕ) (row : Row) →
    f.IsLine options bytes cs still p line row → f.IsEnding bytes row.end q →
    nat_lt p.index (length bytes) ≡ not false
begins-in options bytes cs still p q line row is ending =
    let extent = is.extent in
    let size = ending.size in
    let within = ending.in_text in
    let some = ending-some ending.ending in
    let less : p.index < length bytes = omega arith in
    grind (arith, nat_tests)

-- and if it is the last one and not empty.
begins-last : (options : ParseOptions) (bytes : List ℕ) (cs : List Container) (still : HeldLeaf) (p : Point)
    (line : List ℕ) (row : Row) →
    f.IsLine options bytes cs still p line row → row.end.index ≡ length bytes →
    nat_lt p.index (length bytes) ≡ not (no_bytes line)
begins-last options bytes cs still p [] row is end =
    let extent = is.extent in let same : p.index ≡ length bytes = omega arith in grind (arith, nat_tests)
begins-last options bytes cs still p (b ∷ line) row is end =
    let extent = is.extent in let less : p.index < length bytes = omega arith in grind (arith, nat_tests)

-- what the first line is read as
abbrev RowsMean : ParseOptions → List ℕ → Path → Point → Reading → List Row → Type 0
RowsMean options bytes p a last [] = ⊥
RowsMean options bytes p a last (row ∷ rows) = MeansLine options bytes p a row (groups (row ∷ rows)) last

-- the lines after the first, from what it leaves open
pub rows-below : (options : ParseOptions) (bytes : List ℕ) (a : Path) (p : Point) (line next : List ℕ)
    (lines : List (List ℕ)) (row below : Row) (rows : List Row) →
    IsWithoutMdx options → IsPlain a →
    (are : f.AreRows options bytes (containers_of a) (still_of a) p (line ∷ next ∷ lines) (row ∷ below ∷ rows)) →
    let b : Path = step options a (rest_from p line) in
    f.AreRows options bytes (containers_of b) (still_of b) are.2 (next ∷ lines) (below ∷ rows)
rows-below options bytes a p line next lines row below rows built plain are =
    let r : Rest = rest_from p line in
    let b : Path = step options a r in
    let containers : containers_of b ≡
    f.following_line options (containers_of a) (still_of a) p line = containers-step options a r built plain in
    let still : still_of b ≡ row.following = still-line options bytes a p line row built plain are.0 in
    subst (λ (cs : List Container). f.AreRows options bytes cs (still_of b) are.2 (next ∷ lines) (below ∷ rows))
    (sym containers)
    (subst
    (λ (g : HeldLeaf).
    f.AreRows options bytes (f.following_line options (containers_of a) (still_of a) p line) g are.2 (next ∷ lines)
    (below ∷ rows))
    (sym still) are.5)

-- what so many lines, and one more, make of what is open, but for the containers that end after them
abbrev LinesMean : ParseOptions → List ℕ → Path → Point → ℕ → List Rest → List Row → Type 0
LinesMean options bytes a p n rests rows =
    RowsMean options bytes a p
    (close_containers (length (last_leaves (take (suc n) rows)))
    (reading options (steps_over options a (take (suc n) (recorded rests)))))
    (take (suc n) rows)

-- The groups of the lines of a text, up to any of them, are read as what these lines do.
rows-mean : (options : ParseOptions) (bytes : List ℕ) (a : Path) (p : Point) (n : ℕ) (lines : List (List ℕ))
    (rows : List Row) →
    IsWithoutMdx options → IsPlain a →
    f.AreRows options bytes (containers_of a) (still_of a) p lines rows →
    LinesMean options bytes a p n (rests_from p lines) rows
rows-mean options bytes a p zero (line ∷ []) (row ∷ []) built plain are =
    row-ends options bytes a p line row (no_bytes line) built plain are.0
    (begins-last options bytes (containers_of a) (still_of a) p line row are.0 are.3)
rows-mean options bytes a p (suc n) (line ∷ []) (row ∷ []) built plain are =
    row-ends options bytes a p line row (no_bytes line) built plain are.0
    (begins-last options bytes (containers_of a) (still_of a) p line row are.0 are.3)
rows-mean options bytes a p zero (line ∷ next ∷ lines) (row ∷ below ∷ rows) built plain are =
    row-ends options bytes a p line row false built plain are.0
    (begins-in options bytes (containers_of a) (still_of a) p are.2 line row are.0 are.4)
rows-mean options bytes a p (suc n) (line ∷ next ∷ lines) (row ∷ below ∷ rows) built plain are =
    let r : Rest = rest_from p line in
    let b : Path = step options a r in
    let q : Point = are.2 in
    let still : still_of b ≡ row.following = still-line options bytes a p line row built plain are.0 in
    let plain_b : IsPlain b = plain-step options a r built plain in
    let are_b = rows-below options bytes a p line next lines row below rows built plain are in
    let further : LinesMean options bytes b q n (rests_from q (next ∷ lines)) (below ∷ rows) =
    rows-mean options bytes b q n
    (next ∷ lines) (below ∷ rows) built plain_b are_b in
    let some : List Row = take n rows in
    let last : Reading = close_containers (length (last_leaves (below ∷ some)))
    (reading options (steps_over options b (take (suc n) (recorded (map (rest_at 0) (next ∷ lines)))))) in
    row-means options bytes a p line row are.0 (groups (below ∷ some)) last false built plain
    (begins-in options bytes (containers_of a) (still_of a) p q line row are.0 are.4)
    (follows-below options bytes b row below (groups some) q next last built plain_b
    (following-lazy options bytes (rest_line (contained_at options a r).rest) row are.0.is) still are.1 are.3 are.4
    (first-line options bytes (containers_of b) (still_of b) q (next ∷ lines) (below ∷ rows) are_b)
    (is_lazy (still_of b) below.change.opens below.kind) (is_further below.kind below.on) refl refl
    (subst (λ (rests : List Rest). LinesMean options bytes b q n rests (below ∷ rows))
    (rests-following q (next ∷ lines) are.4.column) further))
rows-mean options bytes a p n lines rows built plain are = absurd are

-- after the last line of a text all containers end
all-leave : (options : ParseOptions) (bytes : List ℕ) (a : Path) (p : Point) (lines : List (List ℕ)) (rows : List Row) →
    IsWithoutMdx options → IsPlain a →
    f.AreRows options bytes (containers_of a) (still_of a) p lines rows →
    last_leaves rows ≡ containers_of (steps_over options a (recorded (rests_from p lines)))
all-leave options bytes a p (line ∷ []) (row ∷ []) built plain are =
    are.1 ∙ sym (containers-over options (no_bytes line) a (rest_from p line) built plain)
all-leave options bytes a p (line ∷ next ∷ lines) (row ∷ below ∷ rows) built plain are =
    let b : Path = step options a (rest_from p line) in
    all-leave options bytes b are.2 (next ∷ lines) (below ∷ rows) built
    (plain-step options a (rest_from p line) built plain)
    (rows-below options bytes a p line next lines row below rows built plain are)
    ∙ ap (λ (rests : List Rest). containers_of (steps_over options b (recorded rests)))
    (rests-following are.2 (next ∷ lines) are.4.column)
all-leave options bytes a p lines rows built plain are = absurd are

-- The events of a text, up to any of its lines, are read as what these lines make of it, but for the containers that
-- end after them.
pub lines-read : (options : ParseOptions) (bytes : List ℕ) (p : Point) (n : ℕ) (lines : List (List ℕ))
    (rows : List Row) →
    IsWithoutMdx options → f.AreRows options bytes [] held_leaf.None p lines rows →
    read bytes unread (groups_events options bytes (groups (take n rows))) ≡
    close_containers (length (last_leaves (take n rows)))
    (reading options (steps_over options (At (spot_of End)) (take n (recorded (rests_from p lines)))))
lines-read options bytes p zero lines rows built are = refl
lines-read options bytes p (suc n) lines rows built are =
    go lines rows (first-line options bytes [] held_leaf.None p lines rows are)
    (rows-mean options bytes (At (spot_of End)) p n lines rows built tt are)
  where
    -- no container ends before the first line
    none : (stays closes : List Container) → map shape_of (stays ++ closes) ≡ [] → closes ≡ []
    none [] [] e = refl
    none [] (c ∷ closes) e = cc
    none (c ∷ stays) closes e = cc

    go : (ls : List (List ℕ)) (rs : List Row) → First options bytes [] held_leaf.None p ls rs →
        LinesMean options bytes (At (spot_of End)) p n (rests_from p lines) rs →
        read bytes unread (groups_events options bytes (groups (take (suc n) rs))) ≡
        close_containers (length (last_leaves (take (suc n) rs)))
        (reading options (steps_over options (At (spot_of End)) (take (suc n) (recorded (rests_from p lines)))))
    go (line ∷ ls) (row ∷ rs) is means =
        let c : Contained = contained_at options (At (spot_of End)) (rest_from p line) in
        let first : row.change.closes ≡ [] = ap (λ (x : Change). x.closes) is.change
        ∙ none c.change.stays c.change.closes (contained-shapes options [] held_leaf.None (rest_from p line)) in
        ap
        (λ (cs : List Container).
        read bytes (close_containers (length cs) unread) (groups_events options bytes (groups (row ∷ take n rs))))
        (sym first)
        ∙ subst (λ (x : Bool). Means options bytes (At (spot_of End)) p false x row (groups (row ∷ take n rs))
        (close_containers (length (last_leaves (row ∷ take n rs)))
        (reading options (steps_over options (At (spot_of End)) (take (suc n) (recorded (rests_from p lines)))))))
        (line-begins options bytes [] held_leaf.None p line row is refl) means
    go [] rs is means = absurd is
    go (line ∷ ls) [] is means = absurd is

-- The events of a text are read as what its lines make of it, with all of it closed.
rows-final : (options : ParseOptions) (bytes : List ℕ) (p : Point) (lines : List (List ℕ)) (rows : List Row) →
    IsWithoutMdx options → f.AreRows options bytes [] held_leaf.None p lines rows →
    read bytes unread (groups_events options bytes (groups rows)) ≡
    final options (steps_over options (At (spot_of End)) (recorded (rests_from p lines)))
rows-final options bytes p lines rows built are =
    let rests : List Recorded = recorded (rests_from p lines) in
    let start : Path = At (spot_of End) in
    let n : ℕ = length rows + length rests in
    ap (λ (rs : List Row). read bytes unread (groups_events options bytes (groups rs)))
    (sym (take_all n rows (omega arith)))
    ∙ lines-read options bytes p n lines rows built are
    ∙ ap₂
    (λ (rs : List Row) (xs : List Recorded).
    close_containers (length (last_leaves rs)) (reading options (steps_over options start xs)))
    (take_all n rows (omega arith)) (take_all n rests (omega arith))
    ∙ ap (λ (cs : List Container). close_containers (length cs) (reading options (steps_over options start rests)))
    (all-leave options bytes start p lines rows built tt are)
    ∙ close_containers-all options [] (steps_over options start rests)

-- So they spell it.
pub spelled-rows : (options : ParseOptions) (bytes : List ℕ) (p : Point) (lines : List (List ℕ)) (rows : List Row) →
    IsWithoutMdx options → f.AreRows options bytes [] held_leaf.None p lines rows →
    spelled (groups_events options bytes (groups rows)) bytes ≡
    closed options (steps_over options (At (spot_of End)) (recorded (rests_from p lines)))
unfolding spelled
spelled-rows options bytes p lines rows built are =
    ap (λ (r : Reading). r.here) (rows-final options bytes p lines rows built are)

-- with nothing left open around it
pub rows-outer : (options : ParseOptions) (bytes : List ℕ) (p : Point) (lines : List (List ℕ)) (rows : List Row) →
    IsWithoutMdx options → f.AreRows options bytes [] held_leaf.None p lines rows →
    (read bytes unread (groups_events options bytes (groups rows))).outer ≡ []
rows-outer options bytes p lines rows built are =
    ap (λ (r : Reading). r.outer) (rows-final options bytes p lines rows built are)
