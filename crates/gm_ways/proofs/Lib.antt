mod FactsShown
mod Leading
