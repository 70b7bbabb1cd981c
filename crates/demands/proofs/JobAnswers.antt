-- Demand 3 inside a job: records that come after others are answered and listed as they are after offers of the nodes
-- still kept.
use mathlib.Core.Path.{◌≡◌, refl, sym, ap, ◌∙◌, subst}
use mathlib.Core.List.{List, [], ◌∷◌, ◌++◌, append_assoc}
use mathlib.Core.Logic.{if_pos}
use Prim.Native.Nat.{ℕ, suc, ◌+◌, ◌-◌, ◌*◌, ◌<◌}
use native.Mathlib.Decide.{ℕ_discrete}
use native.Mathlib.Omega.{arith}
use lib.ListN.{length, get_or, take, length-append}
use lib.Seq.{take_at, drop_at, get_or-append-add}
use Rattle.nodes.specs.declared.Node.{Node}
use Rattle.nodes.specs.declared.Record.{Record}
use Rattle.types.specs.Limits.{most_nodes}
use Rattle.types.specs.Runs.{Runs, offers}
use Rattle.types.specs.declared.Answer.{Answer}
use Rattle.types.proofs.Demand3.{later_answers_are_a_fresh_states}
use Rattle.types.proofs.Once.{runs_once}
use Rattle.formats.specs.Bytes.{answer_bytes, all_bytes}
use Rattle.std.specs.Prelude.{Ok}
use Rattle.headers.specs.Header.{count}
use Rattle.runs.specs.Leaving.{or_none, over}
use Rattle.jobs.specs.Jobs.{place, records, shown, Job}
use Rattle.demands.specs.Words.{answers_from, ClosesLast}
use Rattle.demands.specs.Chains.{StillKept}

-- a run of records and more records is a run and a run
record Split (most : ℕ) (kept : List Node) (rs later : List Record) (answers : List Answer) (listings : List (List ℕ))
    (last : List Node) : Type 0 where
  mid : List Node
  early : List Answer
  late : List Answer
  listed_early : List (List ℕ)
  listed_late : List (List ℕ)
  before : Runs most kept rs early listed_early mid
  after : Runs most mid later late listed_late last
  answers_are : answers ≡ early ++ late
  listings_are : listings ≡ listed_early ++ listed_late

split : {most : ℕ} {kept last : List Node} (rs : List Record) {later : List Record} {answers : List Answer}
    {listings : List (List ℕ)} →
    Runs most kept (rs ++ later) answers listings last → Split most kept rs later answers listings last
split [] r = record {
  mid = _;
  early = [];
  late = _;
  listed_early = [];
  listed_late = _;
  before = Runs.ends;
  after = r;
  answers_are = refl;
  listings_are = refl;
}
split (x ∷ rs) (Runs.goes {a = a} {l = l} o k r) =
    let s = split rs r in
    record {
      mid = s.mid;
      early = a ∷ s.early;
      late = s.late;
      listed_early = l ∷ s.listed_early;
      listed_late = s.listed_late;
      before = Runs.goes o k s.before;
      after = s.after;
      answers_are = ap (λ (x : List Answer). a ∷ x) s.answers_are;
      listings_are = ap (λ (x : List (List ℕ)). l ∷ x) s.listings_are;
    }

-- as many answers and listings as records
as_many : {most : ℕ} {kept last : List Node} {rs : List Record} {answers : List Answer} {listings : List (List ℕ)} →
    Runs most kept rs answers listings last → (length answers ≡ length rs) × (length listings ≡ length rs)
as_many Runs.ends = (refl, refl)
as_many (Runs.goes a l r) = let (x, y) = as_many r in (omega (arith, x), omega (arith, y))

n_records : (job : List ℕ) (n : ℕ) → length (records job n) ≡ n
unfolding records
n_records job ℕ.zero = refl
n_records job (ℕ.suc n) = simp length-append (omega (arith, n_records job n))

-- the answers to later records and their listings do not tell which records came before, but for the nodes still kept
module _ {most : ℕ} {rs later : List Record} {kept last last' : List Node} {answers answers' : List Answer}
    {listings listings' : List (List ℕ)} (s : Split most [] rs later answers listings last)
    (still : StillKept most rs kept) (f : Split most [] (offers kept) later answers' listings' last') where
  late_alike : (s.late ≡ f.late) × (s.listed_late ≡ f.listed_late) × (last ≡ last')
  late_alike =
      let same : s.mid ≡ kept = (runs_once s.before still.2).2 in
      let first = subst (λ ns. Runs most [] (offers ns) f.early f.listed_early f.mid) (sym same) f.before in
      later_answers_are_a_fresh_states s.before first s.after f.after

-- eight bytes an answer
bytes_long : (given : List Answer) → length (all_bytes given) ≡ 8 * length given
unfolding all_bytes
bytes_long [] = refl
bytes_long (a ∷ given) = omega (arith, bytes_long given)

bytes_more : (given more : List Answer) → all_bytes (given ++ more) ≡ all_bytes given ++ all_bytes more
unfolding all_bytes
bytes_more [] more = refl
bytes_more (a ∷ given) more = ap (λ (l : List ℕ). answer_bytes a ++ l) (bytes_more given more)

late_bytes : (early late : List Answer) (rest : List ℕ) (n m : ℕ) → length early ≡ n → length late ≡ m →
    answers_from n m (all_bytes (early ++ late) ++ rest) ≡ all_bytes late
late_bytes early late rest n m is also =
    ap (λ (l : List ℕ). answers_from n m (l ++ rest)) (bytes_more early late)
    ∙ ap (answers_from n m) (append_assoc (all_bytes early) (all_bytes late) rest)
    ∙ ap (take (8 * m))
    (drop_at (all_bytes early) (all_bytes late ++ rest) (8 * n) (omega (arith, bytes_long early, is)))
    ∙ take_at (all_bytes late) rest (8 * m) (omega (arith, bytes_long late, also))

-- what a job shows whose last record is of kind 65
last_shown : (job : List ℕ) (listings : List (List ℕ)) (n : ℕ) → get_or job (place n) 0 ≡ 65 →
    shown job listings (suc n) ≡ or_none (get_or listings n [])
unfolding shown
last_shown job listings n e = if_pos (ℕ_discrete _ _) e _ _

-- a job that was done wrote the answers of a run, and what its last record lists
record Wrote (job : List ℕ) (rs later : List Record) (listing answers' listing' : List ℕ) : Type 0 where
  given : List Answer
  listings : List (List ℕ)
  last : List Node
  parts : Split most_nodes [] rs later given listings last
  bytes : answers_from (length rs) (length later) answers' ≡ all_bytes parts.late
  numbers : ClosesLast job → 0 < length later →
      listing' ≡ over (or_none (get_or parts.listed_late (length later - 1) [])) listing

wrote : {job answers listing answers' listing' : List ℕ} (rs later : List Record) →
    Job job answers listing (Ok tt) answers' listing' → records job (count job) ≡ rs ++ later →
    Wrote job rs later listing answers' listing'
wrote rs later (Job.refused is not) e = absurd (not refl)
wrote {job} {answers} {listing} rs later (Job.done {given = given} {listings = listings} {last = last} is runs) e =
    let s = split rs (subst (λ all. Runs most_nodes [] all given listings last) e runs) in
    let (many, many_listed) = as_many s.before in
    let (many_later, many_later_listed) = as_many s.after in
    record {
      given = given;
      listings = listings;
      last = last;
      parts = s;
      bytes =
          ap (λ (x : List Answer). answers_from (length rs) (length later) (over (all_bytes x) answers))
          s.answers_are
          ∙ late_bytes s.early s.late _ (length rs) (length later) many many_later;
      numbers = λ (n, all, kind) some.
          let long = sym (n_records job (count job)) ∙ ap length e ∙ length-append rs later in
          let at : n ≡ length s.listed_early + (length later - 1) = omega (arith, long, all, some, many_listed) in
          let showing = ap (shown job listings) all ∙ last_shown job listings n kind
          ∙ (λ i. or_none (get_or (s.listings_are i) (at i) []))
          ∙ ap or_none (get_or-append-add s.listed_early s.listed_late (length later - 1) []) in
          ap (λ (l : List ℕ). over l listing) showing;
    }

-- the later records of two jobs, of which the second first offers the nodes that are still kept in the first
module _ {job answers listing answers₁ listing₁ job' answers' listing' answers₂ listing₂ : List ℕ}
    (rs later : List Record) (kept : List Node)
    (one : Job job answers listing (Ok tt) answers₁ listing₁) (of_one : records job (count job) ≡ rs ++ later)
    (still : StillKept most_nodes rs kept)
    (two : Job job' answers' listing' (Ok tt) answers₂ listing₂)
    (of_two : records job' (count job') ≡ offers kept ++ later) where
  w : Wrote job rs later listing answers₁ listing₁
  w = wrote rs later one of_one

  w' : Wrote job' (offers kept) later listing' answers₂ listing₂
  w' = wrote (offers kept) later two of_two

  pub later_bytes :
      answers_from (length rs) (length later) answers₁ ≡ answers_from (length (offers kept)) (length later) answers₂
  later_bytes = w.bytes ∙ ap all_bytes (late_alike w.parts still w'.parts).0 ∙ sym w'.bytes

  pub later_listing : 0 < length later → ClosesLast job → ClosesLast job' →
      (l : List ℕ) × (listing₁ ≡ over l listing) × (listing₂ ≡ over l listing')
  later_listing some closes closes' =
      let same = (late_alike w.parts still w'.parts).1 in (
        or_none (get_or w.parts.listed_late (length later - 1) []),
        w.numbers closes some,
        w'.numbers closes' some
            ∙ ap (λ (ls : List (List ℕ)). over (or_none (get_or ls (length later - 1) [])) listing') (sym same),
      )
