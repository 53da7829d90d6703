mod MethodLemmas
mod NameLemmas
