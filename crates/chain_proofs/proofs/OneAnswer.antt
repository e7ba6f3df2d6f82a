-- Bytes either spell exactly one chain or have exactly one first fault.
use Rattle.std.proofs.Common.{◌≡◌, ℕ, List, Result, Ok, Err, IfErr, refl}
use Rattle.text_parser.specs.declared.fault.TextFault.{TextFault}
use Rattle.text_parser.specs.declared.fault.TextFault.TheVariants.{NoMemory}
use Rattle.problem_file.specs.Laws.{HaveOneAnswer}
use Rattle.problem_file.proofs.TextAnswers.{Represents, no_fault, one_answer}
use Rattle.chain_rules.specs.Chains.{ChainTree}
use Rattle.problem_file.specs.NumberedScopes.{numbered_scope}
use Rattle.chain_proofs.specs.Reads.{Reads, FirstFault, tested, Answers}
use Rattle.chain_proofs.proofs.ReadTexts.{read_given, tests_pass}
use Rattle.chain_proofs.proofs.NamedChains.{tested_named}

module _ (tests actions : ℕ) where
  chain_given : (bytes : List ℕ) (c : ChainTree) → Reads tests actions bytes c → Represents (tested (numbered_scope tests actions)) bytes c
  chain_given bytes c x = record { parts_of_tokens = x.parts_of_tokens; lexes = x.lexes; tests_pass = tests_pass tests actions bytes c x }

  pub have_one_answer : HaveOneAnswer (Reads tests actions) (FirstFault tests actions)
  have_one_answer = one_answer (tested (numbered_scope tests actions)) (Reads tests actions) (λ c. c) (record {
    given = λ bytes c t. read_given tests actions bytes t.parts_of_tokens c t.lexes t.tests_pass;
    pass = λ bytes c x. (c, chain_given bytes c x, refl);
    named = tested_named (numbered_scope tests actions);
  })

  -- bytes that spell a chain have no first fault
  pub only_memory : (bytes : List ℕ) (c : ChainTree) (r : Result ChainTree TextFault) → Reads tests actions bytes c → Answers tests actions bytes r → IfErr r (λ e. e ≡ NoMemory)
  only_memory bytes c (Ok d) denotes h = tt
  only_memory bytes c (Err e) denotes h = no_fault (tested (numbered_scope tests actions)) bytes c e (chain_given bytes c denotes) h
