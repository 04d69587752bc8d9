use Rattle.std.proofs.Common.{◌≡◌, ℕ, ◌-◌, List, ◌++◌, length, take, drop, sym, ap, ◌∙◌, append_assoc, take-append-drop}
use Rattle.std.proofs.lemmas.List.{take_rest}
use Rattle.std.proofs.KnownBytes.{Appends-trans}
use Rattle.md_program.proofs.streams.write_whole.Goals as goal

-- the front grows by what the rest loses
moved : (all front rest : List ℕ) (n : ℕ) → all ≡ front ++ rest →
    all ≡ (front ++ take n rest) ++ take (length rest - n) (drop n rest)
moved all front rest n split =
    split
    ∙ ap (λ bs. front ++ bs) (sym (take-append-drop n rest))
    ∙ sym (append_assoc front (take n rest) (drop n rest))
    ∙ ap (λ bs. (front ++ take n rest) ++ bs) (sym (take_rest rest n))

pub loop-rest-preserved : goal.loop-rest-preserved
loop-rest-preserved g c =
    let (front, split, appended) = c.loop-rest.invariant in
    let rest = c.loop-rest.rest.now in
    let count = c.in-Ok.count in
    (front ++ take count rest, moved _ front rest count split, Appends-trans _ _ _ _ _ appended c.in-Ok.ensures.bytes)
