-- The groups of the lines of a text have by the exact list the events that they have by their rows.
use Rattle.std.proofs.Common.{◌≡◌, ℕ, ◌^◌, ◌<◌, List, [], ◌∷◌, ◌++◌, length, sym, ap, ap₂, ◌∙◌, subst}
use Rattle.md_engine.specs.declared.configuration.ParseOptions.{ParseOptions}
use Rattle.md_engine.specs.declared.event.Event.{Event}
use Rattle.md_events.specs.Exact.Rows.{Row}
use Rattle.proof_frame.specs.Row.{Row as FrameRow}
use Rattle.proof_rows.specs.BlockList.{tabled_group, tabled_groups}
use Rattle.proof_rows.specs.Rows.{Group, Headed, LeafLines, Lines, Single, Turned}
use Rattle.proof_rows.proofs.GroupLines.{AreGroups}
use Rattle.proof_exact_lines.specs.Unlisted.{unlisted_group, unlisted_groups}
use Rattle.proof_exact.proofs.GroupsMatch.{GroupsMatch, Pairs, TakesLines}
use Rattle.proof_exact.proofs.Fit.{Fit}
use Rattle.proof_exact.proofs.Groups.{single-same}
use Rattle.proof_exact.proofs.LeafGroups.{Taken, headed-same, leaf-same, lines-taken}
use Rattle.proof_exact.proofs.Put.{AllPut, ArePut, IsPut}
use Rattle.proof_exact.proofs.TextGroups.{WithLast, lines-same, turned-same, with-last}

pub following-put : (ess : List (List Row)) → AllPut ess → ArePut ess
following-put [] put = tt
following-put (es ∷ ess) put = (put.1, put.2)

-- a group before others, where the first lines that are put together are its
group-step : (options : ParseOptions) (bytes : List ℕ) (g : Group) (r : FrameRow) (rs : List FrameRow)
    (More : List (List Row) → Type 0) (events : List Event) (ess : List (List Row)) →
    TakesLines (Fit options bytes) (r ∷ rs) More ess → ArePut ess →
    ((x : Row) (xs : List Row) → Fit options bytes x r → Pairs (Fit options bytes) xs rs → IsPut (x ∷ xs) →
    unlisted_group options (x ∷ xs) ≡ tabled_group options bytes g) →
    ((following : List (List Row)) → More following → AllPut following → events ≡ unlisted_groups options following) →
    tabled_group options bytes g ++ events ≡ unlisted_groups options ess
group-step options bytes g r rs More events ess takes put group same =
    ap₂ (λ (es fs : List Event). es ++ fs) (sym (group t.x t.xs t.fit t.pairs puts.0)) (same t.following t.more puts.1)
    ∙ sym (ap (unlisted_groups options) t.same)
  where
    t : Taken (Fit options bytes) r rs More ess
    t = lines-taken (Fit options bytes) r rs More ess takes

    puts : ArePut ((t.x ∷ t.xs) ∷ t.following)
    puts = subst ArePut t.same put

pub groups-same : (options : ParseOptions) (bytes : List ℕ) → length bytes < 2 ^ 61 → (gs : List Group)
    (ess : List (List Row)) → AreGroups options bytes gs → GroupsMatch (Fit options bytes) gs ess → ArePut ess →
    tabled_groups options bytes gs ≡ unlisted_groups options ess
groups-same options bytes small [] ess are match put = sym (ap (unlisted_groups options) match)
groups-same options bytes small (Single r ∷ gs) ess are match put =
    group-step options bytes (Single r) r [] (GroupsMatch (Fit options bytes) gs) (tabled_groups options bytes gs) ess
    match put (λ x xs fit pairs puts. single xs x fit pairs)
    (λ following more puts. groups-same options bytes small gs following are.1 more (following-put following puts))
  where
    single : (xs : List Row) (x : Row) → Fit options bytes x r → Pairs (Fit options bytes) xs [] →
        unlisted_group options (x ∷ xs) ≡ tabled_group options bytes (Single r)
    single [] x fit pairs = single-same options bytes x r fit are.0
    single (y ∷ ys) x fit pairs = absurd pairs
groups-same options bytes small (Lines r rs ∷ gs) ess are match put =
    group-step options bytes (Lines r rs) r rs (GroupsMatch (Fit options bytes) gs) (tabled_groups options bytes gs)
    ess match put (λ x xs fit pairs puts. lines-same options bytes x r xs rs small fit pairs puts are.0)
    (λ following more puts. groups-same options bytes small gs following are.3 more (following-put following puts))
groups-same options bytes small (Turned r rs under ∷ gs) ess are match put =
    group-step options bytes (Turned r rs under) r (rs ++ under ∷ []) (GroupsMatch (Fit options bytes) gs)
    (tabled_groups options bytes gs) ess match put (λ x xs fit pairs puts. turned x xs fit pairs puts)
    (λ following more puts. groups-same options bytes small gs following are.4 more (following-put following puts))
  where
    turned : (x : Row) (xs : List Row) → Fit options bytes x r → Pairs (Fit options bytes) xs (rs ++ under ∷ []) →
        IsPut (x ∷ xs) → unlisted_group options (x ∷ xs) ≡ tabled_group options bytes (Turned r rs under)
    turned x xs fit pairs puts =
        let last : WithLast (Fit options bytes) xs rs under = with-last (Fit options bytes) xs rs under pairs in
        subst (λ (l : List Row). unlisted_group options (x ∷ l) ≡ tabled_group options bytes (Turned r rs under))
        (sym last.same)
        (turned-same options bytes x last.u r under last.xs rs small fit last.pairs last.fit
        (subst (λ (l : List Row). IsPut (x ∷ l)) last.same puts) are.0 are.1)
groups-same options bytes small (Headed r next rs ∷ gs) ess are match put =
    group-step options bytes (Headed r next rs) r (next ∷ rs) (GroupsMatch (Fit options bytes) gs)
    (tabled_groups options bytes gs) ess match put (λ x xs fit pairs puts. headed xs x fit pairs puts)
    (λ following more puts. groups-same options bytes small gs following are.4 more (following-put following puts))
  where
    headed : (xs : List Row) (x : Row) → Fit options bytes x r → Pairs (Fit options bytes) xs (next ∷ rs) →
        IsPut (x ∷ xs) → unlisted_group options (x ∷ xs) ≡ tabled_group options bytes (Headed r next rs)
    headed [] x fit pairs puts = absurd pairs
    headed (y ∷ ys) x fit pairs puts =
        headed-same options bytes x y r next ys rs fit pairs.0 pairs.1 puts are.0 are.1
groups-same options bytes small (LeafLines r rs ∷ gs) ess are match put =
    leaf-same options bytes r rs (GroupsMatch (Fit options bytes) gs) (tabled_groups options bytes gs)
    (λ following more puts. groups-same options bytes small gs following are.2 more (following-put following puts))
    ess are.0 are.4
    match put
