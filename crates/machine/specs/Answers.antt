-- What a function that is lent the memory promises: its answer, and the memory that it leaves, which is the memory before with the
-- stores made that come with the answer.
-- Assumes nothing.
use Rattle.std.specs.Prelude.{◌≡◌, List, []}
use Rattle.machine.specs.Memory.{Memory, Store, made}

-- an answer, and the memory with it
pub record With (A : Type 0) : Type 0 where
  pub out : A
  pub mem : Memory

-- the answer r and the memory m are those of w
pub record Gives {A : Type 0} (w : With A) (r : A) (m : Memory) : Type 0 where
  pub answers : r ≡ w.out
  pub leaves : m ≡ w.mem

-- an answer of a function that stores nothing
abbrev pub keeping : {A : Type 0} → A → Memory → With A
keeping r m = record { out = r; mem = m }

-- an answer, and the stores that come with it, in their order
pub record Storing (A : Type 0) : Type 0 where
  pub out : A
  pub stores : List Store

abbrev pub storing : {A : Type 0} → A → List Store → Storing A
storing r xs = record { out = r; stores = xs }

abbrev pub storeless : {A : Type 0} → A → Storing A
storeless r = storing r []

-- the answer, and the memory with its stores made
abbrev pub making : {A : Type 0} → Storing A → Memory → With A
making w m = record { out = w.out; mem = made w.stores m }
