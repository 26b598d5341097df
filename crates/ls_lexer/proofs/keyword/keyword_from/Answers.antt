use Rattle.std.proofs.Common.{◌≡◌, ℕ, List, Option, sym, subst}
use Rattle.ls_lexer.specs.declared.keyword.Keyword.{Keyword}
use Rattle.ls_lexer.specs.Letters.{letters, keyword_from}
use Rattle.ls_lexer.proofs.keyword.keyword_from.Goals as goal

at : (c n : ℕ) (word : List ℕ) (found : Option Keyword) → c ≡ n → found ≡ keyword_from letters n word → found ≡ keyword_from letters c word
at c n word found is same = subst (λ x. found ≡ keyword_from letters x word) (sym is) same

pub returns-in-97 : goal.returns-in-97
returns-in-97 c = at c.args.first 97 c.args.word.now c.keyword_in.result c.in-97.is c.keyword_in.ensures

pub returns-in-99 : goal.returns-in-99
returns-in-99 c = at c.args.first 99 c.args.word.now c.keyword_in-in-99.result c.in-99.is c.keyword_in-in-99.ensures

pub returns-in-100 : goal.returns-in-100
returns-in-100 c = at c.args.first 100 c.args.word.now c.keyword_in-in-100.result c.in-100.is c.keyword_in-in-100.ensures

pub returns-in-101 : goal.returns-in-101
returns-in-101 c = at c.args.first 101 c.args.word.now c.keyword_in-in-101.result c.in-101.is c.keyword_in-in-101.ensures

pub returns-in-102 : goal.returns-in-102
returns-in-102 c = at c.args.first 102 c.args.word.now c.keyword_in-in-102.result c.in-102.is c.keyword_in-in-102.ensures

pub returns-in-105 : goal.returns-in-105
returns-in-105 c = at c.args.first 105 c.args.word.now c.keyword_in-in-105.result c.in-105.is c.keyword_in-in-105.ensures

pub returns-in-108 : goal.returns-in-108
returns-in-108 c = at c.args.first 108 c.args.word.now c.keyword_in-in-108.result c.in-108.is c.keyword_in-in-108.ensures

pub returns-in-109 : goal.returns-in-109
returns-in-109 c = at c.args.first 109 c.args.word.now c.keyword_in-in-109.result c.in-109.is c.keyword_in-in-109.ensures

pub returns-in-110 : goal.returns-in-110
returns-in-110 c = at c.args.first 110 c.args.word.now c.keyword_in-in-110.result c.in-110.is c.keyword_in-in-110.ensures

pub returns-in-111 : goal.returns-in-111
returns-in-111 c = at c.args.first 111 c.args.word.now c.keyword_in-in-111.result c.in-111.is c.keyword_in-in-111.ensures

pub returns-in-112 : goal.returns-in-112
returns-in-112 c = at c.args.first 112 c.args.word.now c.keyword_in-in-112.result c.in-112.is c.keyword_in-in-112.ensures

pub returns-in-114 : goal.returns-in-114
returns-in-114 c = at c.args.first 114 c.args.word.now c.keyword_in-in-114.result c.in-114.is c.keyword_in-in-114.ensures

pub returns-in-115 : goal.returns-in-115
returns-in-115 c = at c.args.first 115 c.args.word.now c.keyword_in-in-115.result c.in-115.is c.keyword_in-in-115.ensures

pub returns-in-116 : goal.returns-in-116
returns-in-116 c = at c.args.first 116 c.args.word.now c.keyword_in-in-116.result c.in-116.is c.keyword_in-in-116.ensures

pub returns-in-117 : goal.returns-in-117
returns-in-117 c = at c.args.first 117 c.args.word.now c.keyword_in-in-117.result c.in-117.is c.keyword_in-in-117.ensures

pub returns-in-119 : goal.returns-in-119
returns-in-119 c = at c.args.first 119 c.args.word.now c.keyword_in-in-119.result c.in-119.is c.keyword_in-in-119.ensures

pub returns-in-120 : goal.returns-in-120
returns-in-120 c = at c.args.first 120 c.args.word.now c.keyword_in-in-120.result c.in-120.is c.keyword_in-in-120.ensures
