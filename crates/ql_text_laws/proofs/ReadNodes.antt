-- What is read within the limits has few nodes: its tokens make as many as it has.
use Rattle.std.proofs.Common.{◌≡◌, ℕ, ◌+◌, ◌-◌, ◌≤◌, Bool, true, false, List, [], ◌∷◌, Result, Ok, Err, length, nat_lt, refl, arith, length-append}
use Rattle.std.proofs.lemmas.Bool.Decides.{nat_tests}
use Rattle.ql_base.specs.declared.limits.TheConstants.{MAX_BRACKETS, MAX_NODES}
use Rattle.ql_lang.specs.declared.name.Name.{Name}
use Rattle.ql_lang.specs.declared.contract.Point.{Point}
use Rattle.ql_lang.specs.declared.contract.Var.{Var}
use Rattle.ql_lang.specs.Trees.{Relation, Proposition, Sentence}
use Rattle.ql_grammar.specs.declared.terminal.Terminal.{Terminal}
use Rattle.ql_grammar.specs.declared.role.Role.{Role}
use Rattle.ql_grammar.specs.declared.role.Role.TheVariants.{Plain, Makes, Opens, Closes, Before}
use Rattle.ql_grammar.specs.Limits.{Counts, Fault, Wide, Deep, counted, counted_all, with_nodes, if_within, nothing_yet}
use Rattle.ql_grammar.specs.Tokens.{Marked, marked}
use Rattle.ql_grammar.specs.ContractGrammar.{ReadsTerm, current, variable, ReadsTerms, one, more, ReadsRelation, RelationPart, Applied, applied_named, applied_bracket, named, bracket, single, both, product, either, ReadsProp, PropPart, truth, group, equal, applied, txn, atom, and, or, implies, ReadsNames, ReadsVar, free, over, ReadsVars, ReadsContract, plain, forall}
use Rattle.ql_parse.specs.Parsing.{IsContractText}
use Rattle.ql_text_laws.specs.Printed.{relation_nodes, prop_nodes}
use Rattle.ql_text_laws.proofs.Pieces.{made_by}

-- counted so far: with `more` nodes after, the tokens that are left are within the limits too
pub record Left (c : Counts) (most : ℕ) (rest : List Marked) (end : Counts) : Type 0 where
  pub counts : Counts
  pub are : counted_all counts rest ≡ Ok end
  pub nodes : counts.nodes ≡ c.nodes + most
  pub few : counts.nodes ≤ MAX_NODES

-- a role of contracts
abbrev pub IsInside : Role → Type 0
IsInside Before = ⊥
IsInside _ = Unit {0}

record Next (c : Counts) (r : Role) (at : ℕ) (go : Counts → Result Counts Fault) (end : Counts) : Type 0 where
  after : Counts
  on : go after ≡ Ok end
  nodes : after.nodes ≡ c.nodes + made_by r
  few : after.nodes ≤ MAX_NODES

nodes_next : (c : Counts) (n at : ℕ) (go : Counts → Result Counts Fault) (end : Counts) → if_within (with_nodes c n at) go ≡ Ok end → (b : Bool) → nat_lt MAX_NODES (c.nodes + n) ≡ b → (c.nodes + n ≤ MAX_NODES) × (go (record c { nodes = c.nodes + n }) ≡ Ok end)
unfolding with_nodes
nodes_next c n at go end h true e = let no : ◌≡◌ {A = Result Counts Fault} (Err (Wide at)) (Ok end) = rw e at h in cc
nodes_next c n at go end h false e = (grind (arith, nat_tests), rw e at h)

opens_next : (c : Counts) (n at : ℕ) (go : Counts → Result Counts Fault) (end : Counts) → if_within (counted c (Opens n) at) go ≡ Ok end → (b : Bool) → nat_lt MAX_BRACKETS (c.open_brackets + 1) ≡ b → if_within (with_nodes (record c { open_brackets = c.open_brackets + 1 }) n at) go ≡ Ok end
unfolding counted
opens_next c n at go end h true e = let no : ◌≡◌ {A = Result Counts Fault} (Err (Deep at)) (Ok end) = rw e at h in cc
opens_next c n at go end h false e = rw e at h

next : (r : Role) → IsInside r → (c : Counts) (at : ℕ) (go : Counts → Result Counts Fault) (end : Counts) → c.nodes ≤ MAX_NODES → if_within (counted c r at) go ≡ Ok end → Next c r at go end
unfolding counted
next Before inside c at go end few h = elim inside [ ]
next Plain inside c at go end few h = record { after = c; on = h; nodes = omega arith; few = few }
next Closes inside c at go end few h = record { after = record c { open_brackets = c.open_brackets - 1 }; on = h; nodes = omega arith; few = few }
next (Makes n) inside c at go end few h =
    let p = nodes_next c n at go end h (nat_lt MAX_NODES (c.nodes + n)) refl in
    record { after = record c { nodes = c.nodes + n }; on = p.1; nodes = refl; few = p.0 }
next (Opens n) inside c at go end few h =
    let opened : Counts = record c { open_brackets = c.open_brackets + 1 } in
    let p = nodes_next opened n at go end (opens_next c n at go end h (nat_lt MAX_BRACKETS (c.open_brackets + 1)) refl) (nat_lt MAX_NODES (opened.nodes + n)) refl in
    record { after = record opened { nodes = opened.nodes + n }; on = p.1; nodes = refl; few = p.0 }

-- a part reads on, with so many nodes
pub record MakesNodes (ts rest : List Marked) (n : ℕ) : Type 0 where
  pub left : (c end : Counts) → c.nodes ≤ MAX_NODES → counted_all c ts ≡ Ok end → Left c n rest end

pub said : (r : Role) → IsInside r → {k : Terminal} {x : List ℕ} {n : ℕ} {rest : List Marked} → MakesNodes (marked r k x n ∷ rest) rest (made_by r)
unfolding counted_all
said r inside {n = n} {rest = rest} = record {
  left = λ c end few h.
      let p = next r inside c n (λ d. counted_all d rest) end few h in
      record { counts = p.after; are = p.on; nodes = p.nodes; few = p.few };
}

pub joined : {ts us rest : List Marked} {a b : ℕ} → MakesNodes ts us a → MakesNodes us rest b → MakesNodes ts rest (a + b)
joined f g = record {
  left = λ c end few h.
      let p = f.left c end few h in
      let q = g.left p.counts end p.few p.are in
      record { counts = q.counts; are = q.are; nodes = omega (arith, p.nodes, q.nodes); few = q.few };
}

pub as_many : {ts rest : List Marked} {a b : ℕ} → a ≡ b → MakesNodes ts rest a → MakesNodes ts rest b
as_many e f = record { left = λ c end few h. let p = f.left c end few h in record { counts = p.counts; are = p.are; nodes = omega (arith, p.nodes, e); few = p.few } }

term_nodes : {r : Role} {ts rest : List Marked} {p : Point} → IsInside r → ReadsTerm r ts rest p → MakesNodes ts rest (made_by r)
term_nodes {r} inside current = said r inside
term_nodes {r} inside variable = said r inside

terms_nodes : {ts rest : List Marked} {ps : List Point} → ReadsTerms ts rest ps → MakesNodes ts rest (length ps)
terms_nodes (one t) = term_nodes tt t
terms_nodes (more {ps = ps} {p = p} ts t) = as_many (omega (arith, length-append ps (p ∷ []))) (joined (terms_nodes ts) (joined (said Plain tt) (term_nodes tt t)))

-- the application's node stands with its relation's first
abbrev nodes_at : RelationPart → Relation → ℕ
nodes_at Applied r = 1 + relation_nodes r
nodes_at _ r = relation_nodes r

relation_reads : {part : RelationPart} {ts rest : List Marked} {r : Relation} → ReadsRelation part ts rest r → MakesNodes ts rest (nodes_at part r)
relation_reads (applied_named is) = said (Makes 2) tt
relation_reads (applied_bracket r) = as_many (omega arith) (joined (said (Opens 1) tt) (joined (relation_reads r) (said Closes tt)))
relation_reads (named is) = said (Makes 1) tt
relation_reads (bracket r) = as_many (omega arith) (joined (said (Opens 0) tt) (joined (relation_reads r) (said Closes tt)))
relation_reads (single r) = relation_reads r
relation_reads (both r s) = as_many (omega arith) (joined (relation_reads r) (joined (said (Makes 1) tt) (relation_reads s)))
relation_reads (product r) = relation_reads r
relation_reads (either r s) = as_many (omega arith) (joined (relation_reads r) (joined (said (Makes 1) tt) (relation_reads s)))

prop_reads : {part : PropPart} {ts rest : List Marked} {p : Proposition} → ReadsProp part ts rest p → MakesNodes ts rest (prop_nodes p)
prop_reads truth = said (Makes 1) tt
prop_reads (group p) = as_many (omega arith) (joined (said (Opens 0) tt) (joined (prop_reads p) (said Closes tt)))
prop_reads (equal a b) = as_many (omega arith) (joined (term_nodes tt a) (joined (said (Makes 2) tt) (term_nodes tt b)))
prop_reads (applied r a b) =
    as_many (omega arith) (joined (relation_reads r) (joined (said (Opens 0) tt) (joined (term_nodes tt a) (joined (said Plain tt) (joined (term_nodes tt b) (said Closes tt))))))
prop_reads (txn ps qs) =
    as_many (omega arith) (joined (said (Makes 1) tt) (joined (said Plain tt) (joined (terms_nodes ps) (joined (said Plain tt) (joined (said Plain tt) (joined (terms_nodes qs) (said Plain tt)))))))
prop_reads (atom p) = prop_reads p
prop_reads (and p q) = as_many (omega arith) (joined (prop_reads p) (joined (said (Makes 1) tt) (prop_reads q)))
prop_reads (both p) = prop_reads p
prop_reads (or p q) = as_many (omega arith) (joined (prop_reads p) (joined (said (Makes 1) tt) (prop_reads q)))
prop_reads (either p) = prop_reads p
prop_reads (implies p q) = as_many (omega arith) (joined (prop_reads p) (joined (said (Makes 1) tt) (prop_reads q)))

names_read : {k : Terminal} {ts rest : List Marked} {ns : List Name} → ReadsNames k ts rest ns → MakesNodes ts rest 0
names_read one = said Plain tt
names_read (more reads) = as_many (omega arith) (joined (names_read reads) (joined (said Plain tt) (said Plain tt)))

var_reads : {ts rest : List Marked} {v : Var} → ReadsVar ts rest v → MakesNodes ts rest 0
var_reads free = said Plain tt
var_reads (over ops) = as_many (omega arith) (joined (said Plain tt) (joined (said Plain tt) (names_read ops)))

vars_read : {ts rest : List Marked} {vs : List Var} → ReadsVars ts rest vs → MakesNodes ts rest 0
vars_read (one v) = var_reads v
vars_read (more us t) = as_many (omega arith) (joined (vars_read us) (joined (said Plain tt) (var_reads t)))

pub contract_reads : {ts rest : List Marked} {s : Sentence} → ReadsContract ts rest s → MakesNodes ts rest (prop_nodes s.body)
contract_reads (plain p) = prop_reads p
contract_reads (forall us p) = as_many (omega arith) (joined (said Plain tt) (joined (vars_read us) (joined (said Plain tt) (prop_reads p))))

pub read_few : (bytes : List ℕ) (s : Sentence) → IsContractText bytes s → prop_nodes s.body ≤ MAX_NODES
read_few bytes s text =
    let within = text.parses.within in
    let left = (contract_reads text.parses.reads).left nothing_yet within.0 (omega arith) within.1 in
    omega (arith, left.nodes, left.few)
