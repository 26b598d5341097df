mod Permuted
