-- The entries, rules and arrow that each node adds: document 01's table of nodes, row by row.
use Rattle.std.specs.Prelude.{List, [], ◌∷◌, ◌++◌, map, ℕ, suc, ◌+◌, ◌≤◌, length, get_or}
use Rattle.classes.specs.Forced.{Rule, equal}
use Rattle.classes.specs.declared.Bound.{Bound}
use Rattle.classes.specs.declared.Bound.TheVariants.{Free, Unit as Unit', Sum, Product}
use Rattle.nodes.specs.declared.Node.{Node}
use Rattle.nodes.specs.declared.Node.TheVariants.{Iden, Unit, InjL, InjR, Take, Drop, Comp, Case, AssertL, AssertR, Pair, Disconnect, DisconnectHole, Witness, Fail, Word}
use Rattle.nodes.specs.declared.arrow.Arrow.{Arrow}

abbrev pub arrow : ℕ → ℕ → Arrow
arrow s t = record { source = s; target = t }

-- a rule of a node, with its number in document 01; 0 for D = target s, which cannot clash
pub record Numbered : Type 0 where
  pub number : ℕ
  pub rule : Rule

abbrev pub says : ℕ → ℕ → ℕ → Numbered
says n a b = record { number = n; rule = equal a b }

-- the 33 standing entries: unit at 0, and 2^(2^n) at n + 1
pub squares : ℕ → ℕ → List Bound
squares n ℕ.zero = []
squares n (ℕ.suc k) = Product n n ∷ squares (suc n) k

unfoldable pub standing : List Bound
unfolding squares
standing = Unit' ∷ Sum 0 0 ∷ squares 1 31

abbrev pub one : ℕ
one = 0

abbrev pub power : ℕ → ℕ
power n = n + 1

-- what one node adds: its new entries, its rules in their order, and its arrow
pub record Row : Type 0 where
  pub entries : List Bound
  pub needs : List Numbered
  pub gives : Arrow

-- A, B, C, D at e to e + 3, A + B at e + 4, (A + B) × C at e + 5
abbrev pub case_entries : ℕ → List Bound → List Bound
case_entries e more = Free ∷ Free ∷ Free ∷ Free ∷ Sum e (e + 1) ∷ Product (e + 4) (e + 2) ∷ more

-- a node's row; s and t are the arrows of its first and second child, e the number of the next entry
abbrev pub adds : Node → Arrow → Arrow → ℕ → Row
adds Iden s t e = record { entries = Free ∷ []; needs = []; gives = arrow e e }
adds Unit s t e = record { entries = Free ∷ []; needs = []; gives = arrow e one }
adds (InjL i) s t e = record { entries = Free ∷ Sum s.target e ∷ []; needs = []; gives = arrow s.source (e + 1) }
adds (InjR i) s t e = record { entries = Free ∷ Sum e s.target ∷ []; needs = []; gives = arrow s.source (e + 1) }
adds (Take i) s t e = record { entries = Free ∷ Product s.source e ∷ []; needs = []; gives = arrow (e + 1) s.target }
adds (Drop i) s t e = record { entries = Free ∷ Product e s.source ∷ []; needs = []; gives = arrow (e + 1) s.target }
adds (Comp i j) s t e = record { entries = []; needs = says 1 s.target t.source ∷ []; gives = arrow s.source t.target }
adds (Case i j) s t e =
    record {
      entries = case_entries e (Product e (e + 2) ∷ Product (e + 1) (e + 2) ∷ []);
      needs = says 3 s.source (e + 6) ∷ says 0 (e + 3) s.target ∷ says 4 t.source (e + 7) ∷ says 5 (e + 3) t.target ∷ [];
      gives = arrow (e + 5) (e + 3);
    }
adds (AssertL i) s t e =
    record {
      entries = case_entries e (Product e (e + 2) ∷ []);
      needs = says 3 s.source (e + 6) ∷ says 0 (e + 3) s.target ∷ [];
      gives = arrow (e + 5) (e + 3);
    }
adds (AssertR i) s t e =
    record {
      entries = case_entries e (Product (e + 1) (e + 2) ∷ []);
      needs = says 4 s.source (e + 6) ∷ says 0 (e + 3) s.target ∷ [];
      gives = arrow (e + 5) (e + 3);
    }
adds (Pair i j) s t e =
    record { entries = Product s.target t.target ∷ []; needs = says 2 s.source t.source ∷ []; gives = arrow s.source e }
adds (Disconnect i j) s t e =
    record {
      entries = Free ∷ Free ∷ Product (power 8) e ∷ Product (e + 1) t.source ∷ Product (e + 1) t.target ∷ [];
      needs = says 6 s.source (e + 2) ∷ says 7 s.target (e + 3) ∷ [];
      gives = arrow e (e + 4);
    }
adds (DisconnectHole i) s t e =
    record {
      entries = Free ∷ Free ∷ Free ∷ Free ∷ Product (power 8) e ∷ Product (e + 1) (e + 2) ∷ Product (e + 1) (e + 3) ∷ [];
      needs = says 6 s.source (e + 4) ∷ says 7 s.target (e + 5) ∷ [];
      gives = arrow e (e + 6);
    }
adds Witness s t e = record { entries = Free ∷ Free ∷ []; needs = []; gives = arrow e (e + 1) }
adds Fail s t e = record { entries = Free ∷ Free ∷ []; needs = []; gives = arrow e (e + 1) }
adds (Word n) s t e = record { entries = []; needs = []; gives = arrow one (power n) }

-- a node's children: how many, and which
abbrev pub children : Node → List ℕ
children Iden = []
children Unit = []
children (InjL i) = i ∷ []
children (InjR i) = i ∷ []
children (Take i) = i ∷ []
children (Drop i) = i ∷ []
children (Comp i j) = i ∷ j ∷ []
children (Case i j) = i ∷ j ∷ []
children (AssertL i) = i ∷ []
children (AssertR i) = i ∷ []
children (Pair i j) = i ∷ j ∷ []
children (Disconnect i j) = i ∷ j ∷ []
children (DisconnectHole i) = i ∷ []
children Witness = []
children Fail = []
children (Word n) = []

-- a word's n; 0 for any other node
abbrev pub word_of : Node → ℕ
word_of Iden = 0
word_of Unit = 0
word_of (InjL i) = 0
word_of (InjR i) = 0
word_of (Take i) = 0
word_of (Drop i) = 0
word_of (Comp i j) = 0
word_of (Case i j) = 0
word_of (AssertL i) = 0
word_of (AssertR i) = 0
word_of (Pair i j) = 0
word_of (Disconnect i j) = 0
word_of (DisconnectHole i) = 0
word_of Witness = 0
word_of Fail = 0
word_of (Word n) = n

-- a word's n is at most 31
abbrev pub Proper : Node → Type 0
Proper n = word_of n ≤ 31

-- what a list of nodes comes to
pub record Program : Type 0 where
  pub bounds : List Bound
  pub rules : List Numbered
  pub arrows : List Arrow

abbrev pub arrow_of : List Arrow → ℕ → Arrow
arrow_of arrows i = get_or arrows i (arrow 0 0)

-- the row of a node offered to a program
abbrev pub row_of : Program → Node → Row
row_of p n = adds n (arrow_of p.arrows (get_or (children n) 0 0)) (arrow_of p.arrows (get_or (children n) 1 0)) (length p.bounds)

abbrev pub grown : Program → Node → Program
grown p n =
    let r = row_of p n in
    record { bounds = p.bounds ++ r.entries; rules = p.rules ++ r.needs; arrows = p.arrows ++ (r.gives ∷ []) }

abbrev pub opened : Program
opened = record { bounds = standing; rules = []; arrows = [] }

unfoldable pub built_on : Program → List Node → Program
built_on p [] = p
built_on p (n ∷ ns) = built_on (grown p n) ns

-- bounds, rules and arrows of a list of nodes
abbrev pub built : List Node → Program
built ns = built_on opened ns

abbrev pub rules_of : List Numbered → List Rule
rules_of = map (λ n. n.rule)
