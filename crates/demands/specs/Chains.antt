-- Demand 3, once for every kind of record call: "every later answer and listing equals, number for number, that of a
-- fresh state offered only the nodes still kept, in their order".
use Rattle.std.specs.Prelude.{◌≡◌, List, [], ◌∷◌, map, ℕ}
use Rattle.nodes.specs.declared.Node.{Node}
use Rattle.nodes.specs.declared.Record.{Record}
use Rattle.types.specs.Runs.{Runs, offers}
use Rattle.types.specs.declared.Answer.{Answer}

-- calls one after the other, each on the state that the one before left; `Step` is what one call promises
pub data Chain {X In Out : Type 0} (Step : X → In → Out → X → Type 0) : X → List In → List Out → X → Type 0 where
  ends : {x : X} → Chain Step x [] [] x
  goes : {x y z : X} {i : In} {o : Out} {is : List In} {os : List Out} → Step x i o y → Chain Step y is os z →
      Chain Step x (i ∷ is) (o ∷ os) z

-- the nodes still kept after these records, by the definition that answers them
abbrev pub StillKept : ℕ → List Record → List Node → Type 0
StillKept most rs kept = (answers : List Answer) × (listings : List (List ℕ)) × Runs most [] rs answers listings kept

-- what demand 3 asks: `Fresh` is what opening gives, `asks` the record that a call puts
module _ (most : ℕ) {X In Out : Type 0} (Fresh : X → Type 0) (Step : X → In → Out → X → Type 0)
    (asks : In → Record) where
  -- the same calls are answered alike from both states, and lead to one state again
  pub record Alike (x x' : X) : Type 0 where
    pub later : {is : List In} {os os' : List Out} {y y' : X} → Chain Step x is os y → Chain Step x' is os' y' →
        (os ≡ os') × (y ≡ y')

  pub record Demand3 : Type 0 where
    -- some nodes are still kept
    pub kept : {x y : X} {is : List In} {os : List Out} → Fresh x → Chain Step x is os y →
        (kept : List Node) × StillKept most (map asks is) kept
    -- two chains that leave the same nodes kept lead to one state, which answers like itself
    pub one_state : {x x' y y' : X} {is is' : List In} {os os' : List Out} {kept : List Node} →
        Fresh x → Chain Step x is os y → StillKept most (map asks is) kept →
        Fresh x' → Chain Step x' is' os' y' → StillKept most (map asks is') kept →
        (y ≡ y') × Alike y y'
    -- so for a fresh state offered only the nodes still kept, in their order
    pub as_fresh : {x x' y y' : X} {is is' : List In} {os os' : List Out} {kept : List Node} →
        Fresh x → Chain Step x is os y → StillKept most (map asks is) kept →
        Fresh x' → Chain Step x' is' os' y' → map asks is' ≡ offers kept →
        (y ≡ y') × Alike y y'
