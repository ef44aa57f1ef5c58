mod Tosses
