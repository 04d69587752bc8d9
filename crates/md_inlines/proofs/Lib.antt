pub mod Computing
mod Shapes
mod TextRows
mod EscapesRows
mod NumbersRows
mod NamesRows
mod CodeRows
mod AutolinksRows
mod HtmlRows
mod BreaksRows
mod EmphasisRows
mod ResourcesRows
mod ReferencesRows
mod ExtensionsRows
mod LiteralsRows
mod CharactersRows
mod TasksRows
mod PrecedenceRows
mod BrokenRows
mod RulesRows
pub mod CharacterLemmas
pub mod CodeLemmas
mod DomainLemmas
pub mod HtmlLemmas
pub mod LabelLemmas
pub mod LiteralLemmas
pub mod RepeatedLemmas
pub mod TargetLemmas
