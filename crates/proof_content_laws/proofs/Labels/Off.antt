-- Where footnote definitions are off, no tree has labels of them.
use Rattle.std.proofs.Common.{◌≡◌, true, false, List, [], ◌++◌, ap₂, refl, sym, ◌∙◌, ℕ}
use Rattle.std.proofs.lemmas.Bool.{and_parts}
use Rattle.md_engine.specs.declared.configuration.ParseOptions.{ParseOptions}
use Rattle.md_meaning.specs.Tree.{Block, Blocks, End, Footnote, Item, ListOf, More, Quote}
use Rattle.md_events.specs.Events.On.{are_on, is_on}
use Rattle.proof_content_laws.proofs.Labels.Trees.{noted_by, noted_in}

mutual
  off-by : (options : ParseOptions) (b : Block) → options.constructs.gfm_footnote_definition ≡ false →
      is_on options b ≡ true → noted_by b ≡ []
  off-by options (Quote alert bs) off on = off-in options bs off (and_parts _ _ on).1
  off-by options (ListOf marker items) off on = off-in options items off (and_parts _ _ on).1
  off-by options (Item marker digits bs) off on = off-in options bs off (and_parts _ _ on).1
  off-by options (Footnote label bs) off on =
      let bad : false ≡ true = sym off ∙ (and_parts _ _ on).0 in absurd (cc)
  off-by options b off on = refl

  pub off-in : (options : ParseOptions) (bs : Blocks) → options.constructs.gfm_footnote_definition ≡ false →
      are_on options bs ≡ true → noted_in bs ≡ []
  off-in options End off on = refl
  off-in options (More b bs) off on =
      let parts = and_parts _ _ on in
      ap₂ (λ (l m : List (List ℕ)). l ++ m) (off-by options b off parts.0) (off-in options bs off parts.1)
